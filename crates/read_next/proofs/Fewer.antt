-- A head that is read behind instructions of other functions is read behind none, with the same value: only the total is tested otherwise.
-- Assumes nothing.
use mathlib.Core.Path.{◌≡◌, refl, ap, ◌∙◌}
use mathlib.Core.Bool.{Bool, true, false}
use Prim.Native.Nat.{ℕ, ◌+◌}
use native.Mathlib.Omega.{arith}
use lib.Dec.{leb}
use borrow.Author.Tests.{leb-true, le-leb}
use Rattle.format.specs.declared.limits.ResourceLimits.{ResourceLimits}
use Rattle.format.specs.declared.refusal.Refusal.{Refusal}
use Rattle.format.specs.Form.{Bytes}
use Rattle.format.specs.Read.{Read, ok, refused, Reader, next, at_most, test}
use Rattle.format.specs.declared.refusal.Refusal.TheVariants.{Instructions, TotalInstructions}
use Rattle.format.specs.ReadFields.{number}
use Rattle.read_entry.specs.Readers.{code}
use Rattle.read_prototype.specs.Front.{front}
use Rattle.read_prototype.specs.Parts.{head_lists, head}

-- where the one accepts, the other accepts so
pub record Fewer {A : Type 0} (o p : Read A) : Type 0 where
  pub holds : (x : A) (to : ℕ) (rest : Bytes) → o ≡ ok x to rest → p ≡ ok x to rest

same : {A : Type 0} (o : Read A) → Fewer o o
same o = record { holds = λ x to rest e. e }

then : {A B : Type 0} {o p : Read A} {f g : A → Reader B} → Fewer o p → ((x : A) (to : ℕ) (rest : Bytes) → Fewer (f x to rest) (g x to rest)) → Fewer (next o f) (next p g)
then {o} {p} {f} {g} a e = record { holds = go o a }
  where
    go : (o : Read _) → Fewer o p → (y : _) (to : ℕ) (rest : Bytes) → next o f ≡ ok y to rest → next p g ≡ ok y to rest
    go (ok x to rest) a y end left is = ap (λ z. next z g) (a.holds x to rest refl) ∙ (e x to rest).holds y end left is
    go (refused q) a y end left is = absurd (let z : ◌≡◌ {A = ℕ} 0 1 = cc in omega arith)

fewer_test : (before n total : ℕ) (q : Refusal) (at : ℕ) (s : Bytes) → Fewer (at_most (before + n) total q at s) (at_most (0 + n) total q at s)
fewer_test before n total q at s = record { holds = λ x to rest. go (leb (before + n) total) refl x to rest }
  where
    go : (b : Bool) → leb (before + n) total ≡ b → (x : Unit {0}) (to : ℕ) (rest : Bytes) → test b q at s ≡ ok x to rest → at_most (0 + n) total q at s ≡ ok x to rest
    go true e x to rest is = let h = leb-true (before + n) total e in rw (le-leb (0 + n) total (omega arith)) is
    go false e x to rest is = absurd (let z : ◌≡◌ {A = ℕ} 0 1 = cc in omega arith)

fewer_code : (per before total at : ℕ) (s : Bytes) → Fewer (code per before total at s) (code per 0 total at s)
fewer_code per before total at s =
    then (same (number at s)) λ size a b.
    then (same (at_most size per (Instructions at) a b)) λ _ c d.
    then (fewer_test before size total (TotalInstructions at) c d) λ _ e f.
    same _

fewer_lists : (L : ResourceLimits) (before at : ℕ) (s : Bytes) → Fewer (head_lists L before at s) (head_lists L 0 at s)
fewer_lists L before at s = then (fewer_code _ before _ at s) λ _ a b. same _

pub fewer_head : (L : ResourceLimits) (before at : ℕ) (s : Bytes) → Fewer (head L before at s) (head L 0 at s)
fewer_head L before at s = then (same (front L.max_string_bytes at s)) λ _ a b. then (fewer_lists L before a b) λ _ c d. same _
