-- The four rules, of what the pass over the anchors gave.
-- Assumes nothing.
use Rattle.std.specs.Prelude.{Ok, Err}
use mathlib.Core.Path.{◌≡◌, refl, sym, ◌∙◌, ap}
use mathlib.Core.Bool.{Bool, true, false, cond}
use mathlib.Core.List.{List, [], ◌∷◌}
use mathlib.Core.Option.{Option, none, some, get_or, map}
use Prim.Native.Nat.{ℕ, suc, ◌+◌}
use native.Mathlib.Omega.{arith}
use lib.Dec.{eqb}
use lib.IntN.{pos}
use lib.ListN.{length, take, drop, get_elem?}
use Rattle.format.specs.declared.entry.AbsLineInfo.{AbsLineInfo}
use Rattle.format.specs.declared.refusal.Refusal.TheVariants.{LineTooLarge}
use Rattle.format.specs.Form.{Bytes}
use Rattle.line_anchors.specs.declared.Scan.{Scan}
use Rattle.line_lookup.specs.Lines.{rule1, rule2, rule3, base_of, raised, by_deltas, line_of, answer_of}
use Rattle.line_anchors.specs.Inner.Scan.{scanned, start_of}
use Rattle.line_lookup.specs.Inner.Scan.{start_in, summed, line_from, numbered_of}
use Rattle.line_anchors.specs.declared.Sought.TheVariants.{Ahead, At}
use Rattle.line_lookup.proofs.Fast.{settled, fast, none_settled}
use Rattle.line_lookup.proofs.Scans.{line_sought, scanned_base, scanned-large, scanned_sought}
use Rattle.line_anchors.proofs.Tests.{picked, other}

module _ (instructions line : ℕ) (deltas : Bytes) (anchors : List AbsLineInfo) (pc : ℕ) where
  abbrev cut : Bytes
  cut = take (pc + 1) deltas

  abbrev scan : Scan
  scan = scanned cut pc (start_of pc line) anchors

  abbrev the_line : ℕ
  the_line = line_of instructions line deltas anchors pc

  -- ## Refusal 25
  pub large-refused : scan.large ≡ true → Err LineTooLarge ≡ answer_of instructions line deltas anchors pc
  large-refused e = picked (Err LineTooLarge) (Ok the_line) (sym (scanned-large cut pc line anchors) ∙ e)

  pub small-shown : scan.large ≡ false → {l : ℕ} → l ≡ the_line → Ok l ≡ answer_of instructions line deltas anchors pc
  small-shown e is = ap Ok is ∙ other (Err LineTooLarge) (Ok the_line) (sym (scanned-large cut pc line anchors) ∙ e)

  -- ## Rule 2
  second : line_sought (numbered_of (length anchors) instructions scan.sought) ≡ rule2 instructions anchors pc
  second = by (eqb (length anchors) instructions)
    where
      by : (t : Bool) → line_sought (cond t scan.sought (Ahead 0)) ≡ cond t (map (λ (a : AbsLineInfo). a.line) (get_elem? anchors pc)) none
      by true = scanned_sought cut pc line anchors
      by false = refl

  not_first : (ds : Bytes) (xs : List AbsLineInfo) {l : ℕ} → rule2 instructions xs pc ≡ some l → rule1 ds xs ≡ none
  not_first [] [] e = by (eqb 0 instructions) e
    where
      by : (t : Bool) {l : ℕ} → cond {A = Option ℕ} t none none ≡ some l → rule1 [] [] ≡ none
      by true e = absurd (let z : ◌≡◌ {A = ℕ} 0 1 = cc in omega arith)
      by false e = absurd (let z : ◌≡◌ {A = ℕ} 0 1 = cc in omega arith)
  not_first [] (x ∷ xs) e = refl
  not_first (d ∷ ds) xs e = refl

  pub by_number : {l : ℕ} → At l ≡ numbered_of (length anchors) instructions scan.sought → l ≡ the_line
  by_number {l} e =
      let is : rule2 instructions anchors pc ≡ some l = sym second ∙ ap line_sought (sym e) in
      sym (ap (λ o. get_or o (get_or (rule2 instructions anchors pc) (get_or (rule3 line deltas anchors pc) 0))) (not_first deltas anchors is) ∙ ap (λ o. get_or o (get_or (rule3 line deltas anchors pc) 0)) is)

  -- ## Rules 3 and 4
  module _ {n : ℕ} (e : Ahead n ≡ numbered_of (length anchors) instructions scan.sought) where
    not_second : rule2 instructions anchors pc ≡ none
    not_second = sym second ∙ ap line_sought (sym e)

    without : (xs : List AbsLineInfo) → rule2 instructions xs pc ≡ none → 0 ≡ line_of instructions line [] xs pc
    without [] e = refl
    without (x ∷ xs) e = sym (ap (λ o. get_or o 0) e)

    no_deltas : cut ≡ [] → 0 ≡ the_line
    no_deltas e = by deltas e
      where
        by : (ds : Bytes) → take (pc + 1) ds ≡ [] → 0 ≡ line_of instructions line ds anchors pc
        by [] e = without anchors not_second
        by (d ∷ ds) e = absurd (let one : pc + 1 ≡ suc pc = omega arith in let size : suc (length (take pc ds)) ≡ 0 = ap length (rw one at e) in omega arith)

    by_sum : by_deltas (base_of pc (record { pc = 0; line = line }) anchors) deltas anchors pc ≡ raised (summed (pos (start_in scan).line) (drop (start_in scan).pc cut))
    by_sum =
        ap (λ b. by_deltas b deltas anchors pc) (sym (scanned_base cut pc line anchors))
        ∙ ap raised (fast cut anchors scan.reset (settled cut pc (start_of pc line) [] anchors (none_settled cut)) scan.base)

    with_deltas : {d : ℕ} {xs : Bytes} → cut ≡ d ∷ xs → raised (summed (pos (start_in scan).line) (drop (start_in scan).pc cut)) ≡ the_line
    with_deltas {d} {xs} e = sym by_sum ∙ by deltas e
      where
        by : (ds : Bytes) → take (pc + 1) ds ≡ d ∷ xs → by_deltas (base_of pc (record { pc = 0; line = line }) anchors) ds anchors pc ≡ line_of instructions line ds anchors pc
        by [] e = absurd (let one : pc + 1 ≡ suc pc = omega arith in let size : 0 ≡ suc (length xs) = ap length (rw one at e) in omega arith)
        by (y ∷ ds) e = sym (ap (λ o. get_or o (get_or (rule3 line (y ∷ ds) anchors pc) 0)) not_second)

    pub by_deltas_lem : line_from scan cut ≡ the_line
    by_deltas_lem = by cut refl
      where
        by : (xs : Bytes) → cut ≡ xs → line_from scan xs ≡ the_line
        by [] e = no_deltas e
        by (d ∷ xs) e = ap (λ ds. raised (summed (pos (start_in scan).line) (drop (start_in scan).pc ds))) (sym e) ∙ with_deltas e
