-- The lines of a list of pcs: 02, item 3.
--     walked_by .. pc           the deltas that the single lookup at a pc walks over, by their numbers
--     deltas_read .. pcs        how many of the function's deltas the lookups at all pcs walk over
--     shown_lines n pcs a       the answer, where a function was asked for and n lines have room
--     lines_written old pcs a   what then stands in the lent list that held `old`
use Rattle.std.specs.Prelude.{Result, Ok, Err}
use Rattle.std.specs.Prelude.{Bool, true, ◌&&◌, cond, List, [], ◌∷◌, ◌++◌, map, ℕ, zero, suc, ◌+◌, eqb, leb, ltb, length, take, drop}
use Rattle.std.proofs.Math.Option.{Option, none, some}
use Rattle.format.specs.Any.{any}
use Rattle.format.specs.declared.entry.AbsLineInfo.{AbsLineInfo}
use Rattle.format.specs.declared.refusal.Refusal.{Refusal}
use Rattle.format.specs.declared.refusal.Refusal.TheVariants.{LineTooLarge, LentSpace, AnchorOrder, PcOrder}
use Rattle.format.specs.Form.{Bytes}
use Rattle.format.specs.Reading.{Prototype}
use Rattle.show_row.specs.Asked.{Asked, found, refused}
use Rattle.line_lookup.specs.Lines.{rule2, base_of, line_of, large}

-- ## The deltas that a lookup walks over
-- the numbers of a part of the deltas, the first of which is at pc i: `walked` (crates/line_lookup/specs/Lines.antt) goes through them so
abbrev pub numbers_from : ℕ → Bytes → List ℕ
numbers_from i [] = []
numbers_from i (d ∷ ds) = i ∷ numbers_from (i + 1) ds

-- none where rule 2 gives the line
abbrev pub unless_given : Option ℕ → List ℕ → List ℕ
unless_given none is = is
unless_given (some line) is = []

-- else those of rule 3: from the base itself up to the pc or the last (`byDeltas`). Rules 1 and 4 are for functions without deltas, which have none
abbrev pub walked_by : ℕ → ℕ → Bytes → List AbsLineInfo → ℕ → List ℕ
walked_by instructions line_defined deltas anchors pc =
    let base = base_of pc (record { pc = 0; line = line_defined }) anchors in
    unless_given (rule2 instructions anchors pc) (numbers_from base.pc (drop base.pc (take (pc + 1) deltas)))

-- ## How many deltas are read: each that a lookup walks over counts once
abbrev pub has : List ℕ → ℕ → Bool
has numbers i = any (λ j. eqb j i) numbers

-- the lookup at one of the pcs walks over delta i
abbrev pub walked_by_any : (ℕ → List ℕ) → List ℕ → ℕ → Bool
walked_by_any walk pcs i = any (λ pc. has (walk pc) i) pcs

-- how many numbers below n pass a test
abbrev pub count_below : ℕ → (ℕ → Bool) → ℕ
count_below zero test = 0
count_below (suc n) test = cond (test n) 1 0 + count_below n test

abbrev pub deltas_read : ℕ → ℕ → Bytes → List AbsLineInfo → List ℕ → ℕ
deltas_read instructions line_defined deltas anchors pcs = count_below (length deltas) (walked_by_any (walked_by instructions line_defined deltas anchors) pcs)

-- ## The checks
-- each item passes a test with the one before it
abbrev pub ordered_from : {A : Type 0} → (A → A → Bool) → A → List A → Bool
ordered_from test x [] = true
ordered_from test x (y ∷ more) = test x y && ordered_from test y more

abbrev pub ordered : {A : Type 0} → (A → A → Bool) → List A → Bool
ordered test [] = true
ordered test (x ∷ more) = ordered_from test x more

-- the anchors' pcs rise strictly
abbrev pub below : AbsLineInfo → AbsLineInfo → Bool
below a b = ltb a.pc b.pc

abbrev pub rises : List AbsLineInfo → Bool
rises anchors = ordered below anchors

-- no pc is below the one before it
abbrev pub never_falls : List ℕ → Bool
never_falls pcs = ordered leb pcs

-- 25, 29, 30, and 26 last; the first three whatever room there is, the first two whatever the pcs are
abbrev pub refusal_of : ℕ → List AbsLineInfo → ℕ → List ℕ → Option Refusal
refusal_of line_defined anchors space pcs =
    cond (large line_defined anchors) (some LineTooLarge)
    (cond (rises anchors) (cond (never_falls pcs) (cond (leb (length pcs) space) none (some LentSpace)) (some PcOrder)) (some AnchorOrder))

-- ## The answer
abbrev pub answered : Option Refusal → ℕ → Result ℕ Refusal
answered none n = Ok n
answered (some q) n = Err q

-- the lines, and behind them what stood there; on a refusal all that stood there
abbrev pub over_if : Option Refusal → List ℕ → List ℕ → List ℕ
over_if none new old = new ++ drop (length new) old
over_if (some q) new old = old

-- 21, 22, 1 to 20 and 23 come first
abbrev pub shown_lines : ℕ → List ℕ → Asked Prototype → Result ℕ Refusal
shown_lines space pcs (found p) =
    answered (refusal_of p.line_defined p.abs_line_info space pcs) (deltas_read (length p.instructions) p.line_defined p.line_info_lem p.abs_line_info pcs)
shown_lines space pcs (refused q) = Err q

abbrev pub lines_written : List ℕ → List ℕ → Asked Prototype → List ℕ
lines_written old pcs (found p) =
    over_if (refusal_of p.line_defined p.abs_line_info (length old) pcs) (map (line_of (length p.instructions) p.line_defined p.line_info_lem p.abs_line_info) pcs) old
lines_written old pcs (refused q) = old
