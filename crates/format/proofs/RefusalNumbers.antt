-- 01's and 02's numbers: each refusal has one of its own, from 1 to 33, and with its place it tells the refusal.
--     told_apart       no two refusals share number and place
--     numbers          a refusal's number is 1 to 33
--     places_exactly   all but 2, 3 and 21 to 30 have a place
-- Refused by these: 24 reported as 23 (`told-apart`), a refusal of number 0 or 34 (`numbers`), a place left out (`places-exactly`).
-- Assumes nothing.
use Rattle.std.specs.Prelude.{Option, Some, None}
use mathlib.Core.Path.{◌≡◌, refl, sym, ◌∙◌, ap}
use mathlib.Core.Bool.{Bool, true, false, ◌||◌, cond}
use Prim.Native.Nat.{ℕ, ◌≤◌}
use lib.Dec.{leb, eqb}
use borrow.Author.Tests.{leb-true}
use Rattle.format.specs.declared.refusal.Refusal.{Refusal}
use Rattle.format.specs.declared.refusal.Refusal.TheVariants as q
use Rattle.format.specs.declared.refusal.Report.{Report}
use Rattle.format.specs.Refusals.{reported}

-- ## The refusal of a number and a place
abbrev with_place : ℕ → ℕ → Refusal
with_place n at =
    cond (eqb n 1) (q.Truncated at) (cond (eqb n 4) (q.Signature at) (cond (eqb n 5) (q.Version at) (cond (eqb n 6) (q.LuacData at)
    (cond (eqb n 7) (q.InstructionSize at) (cond (eqb n 8) (q.LuaIntegerSize at) (cond (eqb n 9) (q.LuaNumberSize at) (cond (eqb n 10) (q.LuacInt at)
    (cond (eqb n 11) (q.LuacNum at) (cond (eqb n 12) (q.ConstantTag at) (cond (eqb n 13) (q.StringBytes at) (cond (eqb n 14) (q.Instructions at)
    (cond (eqb n 15) (q.TotalInstructions at) (cond (eqb n 16) (q.Constants at) (cond (eqb n 17) (q.Upvalues at) (cond (eqb n 18) (q.Prototypes at)
    (cond (eqb n 19) (q.NestingDepth at) (cond (eqb n 20) (q.TotalPrototypes at) (cond (eqb n 31) (q.Format at) (cond (eqb n 32) (q.IntOverflow at)
    (q.NullString at))))))))))))))))))))

abbrev without_place : ℕ → Refusal
without_place n =
    cond (eqb n 2) q.Overflow (cond (eqb n 3) q.VarintOverflow (cond (eqb n 21) q.LimitAboveCeiling (cond (eqb n 22) q.InputBytes (cond (eqb n 23) q.NoFunction
    (cond (eqb n 24) q.NoEntry (cond (eqb n 25) q.LineTooLarge (cond (eqb n 26) q.LentSpace (cond (eqb n 27) q.FieldRange (cond (eqb n 28) q.NoOpcode
    (cond (eqb n 29) q.AnchorOrder q.PcOrder))))))))))

abbrev refusal_of : ℕ → Option ℕ → Refusal
refusal_of n (Some at) = with_place n at
refusal_of n None = without_place n

abbrev pub has_place : Option ℕ → Bool
has_place (Some at) = true
has_place None = false

-- ## The table
record Row (r : Refusal) : Type 0 where
  back : refusal_of (reported r).number (reported r).place ≡ r
  above : leb 1 (reported r).number ≡ true
  below : leb (reported r).number 33 ≡ true
  placed : has_place (reported r).place ≡ cond (eqb (reported r).number 2 || eqb (reported r).number 3) false (leb (reported r).number 20 || leb 31 (reported r).number)

row : (r : Refusal) → Row r
row (q.Truncated at) = record { back = refl; above = refl; below = refl; placed = refl }
row q.Overflow = record { back = refl; above = refl; below = refl; placed = refl }
row q.VarintOverflow = record { back = refl; above = refl; below = refl; placed = refl }
row (q.Signature at) = record { back = refl; above = refl; below = refl; placed = refl }
row (q.Version at) = record { back = refl; above = refl; below = refl; placed = refl }
row (q.LuacData at) = record { back = refl; above = refl; below = refl; placed = refl }
row (q.InstructionSize at) = record { back = refl; above = refl; below = refl; placed = refl }
row (q.LuaIntegerSize at) = record { back = refl; above = refl; below = refl; placed = refl }
row (q.LuaNumberSize at) = record { back = refl; above = refl; below = refl; placed = refl }
row (q.LuacInt at) = record { back = refl; above = refl; below = refl; placed = refl }
row (q.LuacNum at) = record { back = refl; above = refl; below = refl; placed = refl }
row (q.ConstantTag at) = record { back = refl; above = refl; below = refl; placed = refl }
row (q.StringBytes at) = record { back = refl; above = refl; below = refl; placed = refl }
row (q.Instructions at) = record { back = refl; above = refl; below = refl; placed = refl }
row (q.TotalInstructions at) = record { back = refl; above = refl; below = refl; placed = refl }
row (q.Constants at) = record { back = refl; above = refl; below = refl; placed = refl }
row (q.Upvalues at) = record { back = refl; above = refl; below = refl; placed = refl }
row (q.Prototypes at) = record { back = refl; above = refl; below = refl; placed = refl }
row (q.NestingDepth at) = record { back = refl; above = refl; below = refl; placed = refl }
row (q.TotalPrototypes at) = record { back = refl; above = refl; below = refl; placed = refl }
row q.LimitAboveCeiling = record { back = refl; above = refl; below = refl; placed = refl }
row q.InputBytes = record { back = refl; above = refl; below = refl; placed = refl }
row q.NoFunction = record { back = refl; above = refl; below = refl; placed = refl }
row q.NoEntry = record { back = refl; above = refl; below = refl; placed = refl }
row q.LineTooLarge = record { back = refl; above = refl; below = refl; placed = refl }
row q.LentSpace = record { back = refl; above = refl; below = refl; placed = refl }
row q.FieldRange = record { back = refl; above = refl; below = refl; placed = refl }
row q.NoOpcode = record { back = refl; above = refl; below = refl; placed = refl }
row q.AnchorOrder = record { back = refl; above = refl; below = refl; placed = refl }
row q.PcOrder = record { back = refl; above = refl; below = refl; placed = refl }
row (q.Format at) = record { back = refl; above = refl; below = refl; placed = refl }
row (q.IntOverflow at) = record { back = refl; above = refl; below = refl; placed = refl }
row (q.NullString at) = record { back = refl; above = refl; below = refl; placed = refl }

-- ## What it says
pub told_apart : (p r : Refusal) → reported p ≡ reported r → p ≡ r
told_apart p r e = sym (row p).back ∙ ap (λ (x : Report). refusal_of x.number x.place) e ∙ (row r).back

pub numbers : (r : Refusal) → (1 ≤ (reported r).number) × ((reported r).number ≤ 33)
numbers r = (leb-true 1 (reported r).number (row r).above, leb-true (reported r).number 33 (row r).below)

pub places_exactly : (r : Refusal) → has_place (reported r).place ≡ cond (eqb (reported r).number 2 || eqb (reported r).number 3) false (leb (reported r).number 20 || leb 31 (reported r).number)
places_exactly r = (row r).placed
