-- What is stored of a function in an index.
--     COLUMNS              how many numbers are stored of each function
--     low n                the low 32 bits of n
--     stored_head ..        the numbers of a function as they are stored, of what a walk knows before the functions that nest in it (its two places stand last in the row) and behind them
--     stored ps            those of functions, one after the other. (They are `index ps`, in a chunk within the ceilings: `Small.antt` of crate index.)
use Rattle.std.specs.Prelude.{List, [], ◌∷◌, ◌++◌, map, ℕ, ◌%◌, length}
use Rattle.format.specs.Reading.{Prototype}
use Rattle.read_prototype.specs.declared.pass.HeadCounts.{HeadCounts}
use Rattle.read_prototype.specs.declared.pass.TailCounts.{TailCounts}

abbrev pub COLUMNS : ℕ
COLUMNS = 14

abbrev pub low : ℕ → ℕ
low n = n % 4294967296

abbrev pub stored_head : ℕ → ℕ → ℕ → ℕ → HeadCounts → List ℕ
stored_head start end depth parent head =
    map low (start ∷ end ∷ depth ∷ parent
    ∷ head.instructions ∷ head.constants ∷ head.upvalues ∷ head.protos ∷ [])

abbrev pub stored_places : HeadCounts → List ℕ
stored_places head = map low (head.instructions_at ∷ head.constants_at ∷ [])

abbrev pub stored_tail : TailCounts → List ℕ
stored_tail tail = map low (tail.line_info ∷ tail.abs_line_info ∷ tail.loc_vars ∷ tail.upvalue_names ∷ [])

abbrev pub stored_function : Prototype → List ℕ
stored_function p =
    map low (p.start ∷ p.end ∷ p.depth ∷ p.parent
    ∷ length p.instructions ∷ length p.constants ∷ length p.upvalues ∷ p.protos
    ∷ length p.line_info_lem ∷ length p.abs_line_info ∷ length p.loc_vars ∷ length p.upvalue_names_lem
    ∷ p.places.instructions ∷ p.places.constants ∷ [])

abbrev pub stored : List Prototype → List ℕ
stored [] = []
stored (p ∷ ps) = stored_function p ++ stored ps
