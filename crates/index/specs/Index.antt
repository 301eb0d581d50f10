-- The index of a chunk: fourteen numbers for each function, functions in the order their bytes begin (01 'Calls'; 02, item 2: the last two).
--     index_row p           the numbers of the function p
--     index ps             those of all functions, one after the other
--     shown_index n o       the answer, where o was read and n numbers have room
--     index_written old o   what then stands in the lent space that held `old`
use Rattle.std.specs.Prelude.{Result, Ok, Err}
use Rattle.format.specs.declared.refusal.Refusal.{Refusal}
use Rattle.std.specs.Prelude.{cond, List, [], ◌∷◌, ◌++◌, ℕ, leb, length}
use Rattle.format.specs.declared.refusal.Refusal.TheVariants.{LentSpace}
use Rattle.format.specs.Reading.{Prototype}
use Rattle.format.specs.ReadChunk.{Outcome, shown, refusal}
use Rattle.slice.specs.Over.{over}

-- where it begins and ends (just behind its last byte), its depth, its parent's number (main's is 0), how long each list is, in the grammar's order,
-- and where its instruction words and its constants begin: just after their counts, also where there are none
abbrev pub index_row : Prototype → List ℕ
index_row p =
    p.start
    ∷ p.end
    ∷ p.depth
    ∷ p.parent
    ∷ length p.instructions
    ∷ length p.constants
    ∷ length p.upvalues
    ∷ p.protos
    ∷ length p.line_info_lem
    ∷ length p.abs_line_info
    ∷ length p.loc_vars
    ∷ length p.upvalue_names_lem
    ∷ p.places.instructions
    ∷ p.places.constants
    ∷ []

abbrev pub index : List Prototype → List ℕ
index [] = []
index (p ∷ ps) = index_row p ++ index ps

-- the number of functions; 26 where the space is shorter than the index, after every other refusal
abbrev pub shown_index : ℕ → Outcome → Result ℕ Refusal
shown_index space (shown r) = cond (leb (length (index r.functions)) space) (Ok (length r.functions)) (Err LentSpace)
shown_index space (refusal q) = Err q

-- the index, and behind it what stood there; on any refusal all that stood there
abbrev pub index_written : List ℕ → Outcome → List ℕ
index_written old (shown r) = over (index r.functions) old
index_written old (refusal q) = old
