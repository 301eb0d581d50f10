-- The answers of `find_row`: the walk from main on, with the row that is read at the spot.
-- Assumes nothing.
use Rattle.std.specs.Prelude as prelude
use Rattle.std.specs.Prelude.{None, Ok, Err}
use Rattle.read_prototype.specs.declared.row.FunctionRow.{FunctionRow}
use mathlib.Core.Path.{◌≡◌, refl, sym, subst, ◌∙◌, ap}
use mathlib.Core.List.{List}
use mathlib.Core.Option.{Option, none, some}
use Prim.Native.Nat.{ℕ}
use native.Mathlib.Omega.{arith}
use lib.ListN.{length, drop}
use Rattle.format.specs.declared.limits.ResourceLimits.{ResourceLimits}
use Rattle.format.specs.declared.refusal.Refusal.{Refusal}
use Rattle.format.specs.Form.{Bytes}
use Rattle.format.specs.Reading.{Prototype}
use Rattle.format.specs.GrammarChunk.{outermost}
use Rattle.format.specs.Read.{Read, ok, refused}
use Rattle.format.specs.ReadChunk.{function}
use Rattle.slice.specs.declared.cursor.Cursor.{Cursor}
use Rattle.read_prototype.specs.Inner.Row.{shown_row, lookup}
use Rattle.read_walk.specs.declared.walk.Skimmed.{Skimmed}
use Rattle.read_walk.specs.Inner.Skim.{skimmed_of, skim_result}
use Rattle.read_walk.proofs.OneFunction.{skim_err}
use Rattle.read_find.specs.declared.spot.Above.{Above}
use Rattle.read_find.specs.Inner.Find.{find_result}
use Rattle.read_find.specs.Inner.Spot.{standing, function_at, row_or, Found}
use Rattle.read_find.proofs.Spots.{main_stands}

none_or : (o : Option Prototype) → row_or o None ≡ shown_row o
none_or none = refl
none_or (some p) = refl

module _ (s : Bytes) (L : ResourceLimits) (wanted n : ℕ) (at : Cursor) where
  abbrev above : Above
  above = record { depth = 0; parent = 0; source = length s }

  abbrev from : Skimmed
  from = record { next = at; number = 0; instructions = 0 }

  abbrev whole : Read (List Prototype)
  whole = function L n outermost at.at (drop at.at s)

  from-main : skim_result (standing L s above from) (function_at L s n above from) ≡ skim_result outermost whole
  from-main = ap (λ w. skim_result w (function L n w at.at (drop at.at s))) (main_stands L s at)

  pub main-refused : (q : Refusal) → Err q ≡ skim_result (standing L s above from) (function_at L s n above from) → Err q ≡ find_result wanted whole
  main-refused q e = sym (ap (find_result wanted) (skim_err outermost whole q (e ∙ from-main)))

  pub main-read : (k : Skimmed) → Ok k ≡ skim_result (standing L s above from) (function_at L s n above from) → (before row : prelude.Option FunctionRow) → before ≡ None → Found wanted 0 (function_at L s n above from) before row → Ok (k, row) ≡ find_result wanted whole
  main-read k e before row none_yet found = by whole refl (e ∙ from-main)
    where
      there : (ps : List Prototype) (to : ℕ) (rest : Bytes) → whole ≡ ok ps to rest → row ≡ row_or (lookup wanted 0 ps) before
      there = (subst (λ w. Found wanted 0 (function L n w at.at (drop at.at s)) before row) (main_stands L s at) found).found

      by : (o : Read (List Prototype)) → whole ≡ o → Ok k ≡ skim_result outermost o → Ok (k, row) ≡ find_result wanted whole
      by (ok ps to rest) is e =
          let all : k ≡ skimmed_of outermost ps to = cc in
          let its_row : row ≡ shown_row (lookup wanted 0 ps) = there ps to rest is ∙ ap (row_or (lookup wanted 0 ps)) none_yet ∙ none_or (lookup wanted 0 ps) in
          (λ i. Ok ((all i), (its_row i))) ∙ sym (ap (find_result wanted) is)
      by (refused q) is e = absurd (let z : ◌≡◌ {A = ℕ} 0 1 = cc in omega arith)
