-- `text_list::numbers` meets its contract: a number more is pushed. Assumes nothing.
use Rattle.std.proofs.Common.{ℕ, List, ◌≡◌, ◌+◌, ◌-◌, ◌<◌, ◌≤◌, map, length, min, get_or, set}
use Rattle.std.proofs.Common.{ap, sym, ◌∙◌, arith, rules}
use mathlib.Core.Logic.{⊎_elim}
use Rattle.std.proofs.lemmas.Bool.{cases_lt}
use Rattle.std.proofs.lemmas.List.{get_or-set_same, get_or-set_other, get_or-map}
use native.Mathlib.Nat.{eq-or-lt_of_le}
use Rattle.text_list.proofs.numbers.Goals as goal

-- a push, as its contract says it
record Pushed (list new : List ℕ) (end after x : ℕ) : Type 0 where
  value : end < 65536 → (after ≡ end + 1) × (new ≡ set list end x)
  value_2 : 65536 ≤ end → (after ≡ end) × (new ≡ list)

module _ (list new : List ℕ) (at i end after x : ℕ) (room : length list ≡ 65536)
    (is : end ≡ at + min (65536 - at) i) (p : Pushed list new end after x) where
  further : after ≡ at + min (65536 - at) (i + 1)
  further = ⊎_elim (λ l. omega (arith, (p.value l).0)) (λ l. omega (arith, (p.value_2 l).0)) (cases_lt end 65536)

  below : (old : List ℕ) → ((k : ℕ) → k < at → get_or list k 0 ≡ get_or old k 0)
      → (k : ℕ) → k < at → get_or new k 0 ≡ get_or old k 0
  below old h k l = ⊎_elim
      (λ some. ap (λ xs. get_or xs k 0) (p.value some).1 ∙ get_or-set_other list end k x 0 (λ j. omega arith) ∙ h k l)
      (λ full. ap (λ xs. get_or xs k 0) (p.value_2 full).1 ∙ h k l) (cases_lt end 65536)

  from_at : (ys : List ℕ) → x ≡ get_or ys i 0 → ((k : ℕ) → at + k < end → get_or list (at + k) 0 ≡ get_or ys k 0)
      → (k : ℕ) → at + k < after → get_or new (at + k) 0 ≡ get_or ys k 0
  from_at ys e h k l = ⊎_elim stored kept (cases_lt end 65536)
    where
      kept : 65536 ≤ end → get_or new (at + k) 0 ≡ get_or ys k 0
      kept full = ap (λ xs. get_or xs (at + k) 0) (p.value_2 full).1 ∙ h k (omega (arith, (p.value_2 full).0))

      stored : end < 65536 → get_or new (at + k) 0 ≡ get_or ys k 0
      stored some = ap (λ xs. get_or xs (at + k) 0) (p.value some).1
          ∙ ⊎_elim here before (eq-or-lt_of_le {n = at + k} {m = end} (omega (arith, (p.value some).0)))
        where
          here : at + k ≡ end → get_or (set list end x) (at + k) 0 ≡ get_or ys k 0
          here j = let same : k ≡ i = omega arith in
              ap (λ m. get_or (set list end x) m 0) j ∙ get_or-set_same list end x 0 (omega arith) ∙ e
              ∙ ap (λ m. get_or ys m 0) (sym same)

          before : at + k < end → get_or (set list end x) (at + k) 0 ≡ get_or ys k 0
          before j = get_or-set_other list end (at + k) x 0 (λ m. omega arith) ∙ h k j

pub loop-x-preserved : goal.loop-x-preserved
loop-x-preserved g c =
    let l = c.loop-x in
    let p : Pushed l.list c.push-end.new.list l.end c.push-end.result c.number.result =
    record { value = c.push-end.ensures.value; value_2 = c.push-end.ensures.value_2 } in
    let room : length l.list ≡ 65536 = search rules in record {
      end = further _ _ _ _ _ _ _ room l.invariant.end p;
      before = below _ _ _ _ _ _ _ room l.invariant.end p c.args.list.now l.invariant.before;
      numbers = from_at _ _ _ _ _ _ _ room l.invariant.end p
          (map g.T.Number.value c.part-taken.result.now)
          (c.number.ensures ∙ ap g.T.Number.value c.x-item.is
          ∙ sym (get_or-map g.T.Number.value c.part-taken.result.now l.x-index c.x-item.result 0 c.loop-x-test.true))
          l.invariant.numbers;
    }
