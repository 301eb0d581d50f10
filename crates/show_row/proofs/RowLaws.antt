-- The row of a function by its number, in the code's terms.
-- Assumes nothing.
use Rattle.std.specs.Prelude.{Ok}
use Rattle.std.specs.Option.{ok_or}
use mathlib.Core.Path.{◌≡◌, refl, ◌∙◌, ap}
use mathlib.Core.Bool.{cond}
use mathlib.Core.List.{List, [], ◌∷◌}
use mathlib.Core.Option.{Option, none, some}
use Prim.Native.Nat.{ℕ, zero, suc, ◌+◌}
use native.Mathlib.Omega.{arith}
use lib.ListN.{get_elem?}
use borrow.Author.Tests.{eq-eqb, ne_eqb}
use Rattle.format.specs.declared.refusal.Refusal.TheVariants.{NoFunction}
use Rattle.format.specs.Reading.{Prototype}
use Rattle.format.specs.ReadChunk.{Outcome, shown, refusal}
use Rattle.read_prototype.specs.Inner.Row.{shown_row, lookup}
use Rattle.read_chunk.specs.declared.summary.Decoded.{Decoded}
use Rattle.read_chunk.specs.Inner.Decoded.{decoded_result}
use Rattle.show_row.specs.Asked.{or_refuse, function_of}
use Rattle.show_row.specs.Inner.Places.{shown_row_answer}

-- a function by its number is the item of that number
lookup-from : (n k : ℕ) (ps : List Prototype) → lookup (k + n) k ps ≡ get_elem? ps n
lookup-from n k [] = refl
lookup-from zero k (p ∷ ps) = rw (eq-eqb (k + 0) k (omega arith))
lookup-from (suc n) k (p ∷ ps) =
    let e : k + suc n ≡ k + 1 + n = omega arith in
    ap (λ b. cond b (some p) (lookup (k + suc n) (k + 1) ps)) (ne_eqb (k + suc n) k (λ e. omega arith)) ∙ ap (λ m. lookup m (k + 1) ps) e ∙ lookup-from n (k + 1) ps

lookup_nth : (n : ℕ) (ps : List Prototype) → lookup n 0 ps ≡ get_elem? ps n
lookup_nth n ps = let e : n ≡ 0 + n = omega arith in ap (λ m. lookup m 0 ps) e ∙ lookup-from n 0 ps

shown-or : (o : Option Prototype) → ok_or (shown_row o) NoFunction ≡ shown_row_answer (or_refuse NoFunction o)
shown-or none = refl
shown-or (some p) = refl

-- what is shown of a row that was looked for
pub row_shown : (f : ℕ) (o : Outcome) (d : Decoded) → Ok d ≡ decoded_result f o → ok_or d.row NoFunction ≡ shown_row_answer (function_of f o)
row_shown f (shown r) d e =
    let same : d.row ≡ shown_row (lookup f 0 r.functions) = cc in
    ap (λ x. ok_or x NoFunction) same ∙ ap (λ p. ok_or (shown_row p) NoFunction) (lookup_nth f r.functions) ∙ shown-or (get_elem? r.functions f)
row_shown f (refusal p) d e = absurd (let z : ◌≡◌ {A = ℕ} 0 1 = cc in omega arith)
