-- The readers of counts and lists that `body` is made of read exactly a form, with the limits.
-- Assumes nothing.
use mathlib.Core.Path.{◌≡◌, refl}
use Prim.Native.Nat.{ℕ, ◌+◌, ◌≤◌}
use Rattle.format.specs.declared.refusal.Refusal.TheVariants.{Instructions, TotalInstructions, Prototypes}
use Rattle.format.specs.Form.{Form, Then, Is, Here, Given, Run, Many}
use Rattle.format.specs.GrammarFields.{Field, Number}
use Rattle.format.specs.GrammarChunk.{Listed}
use Rattle.format.specs.Read.{Read, ok, refused, Reader, next}
use Rattle.format.proofs.Exact.{Exact, exact_give, exact_here, exact_then, exact_place, exact_at_most, exact_run, exact_many}
use Rattle.format.proofs.ExactFields.{exact_field, exact_number}
use Rattle.read_entry.specs.Readers.{Count, code, line_info, protos_count}

-- two readers one after the other, and a third behind them
pub regroup : {A B C : Type 0} (o : Read A) (f : A → Reader B) (g : B → Reader C) → next (next o f) g ≡ next o (λ x at s. next (f x at s) g)
regroup (ok x to rest) f g = refl
regroup (refused q) f g = refl

abbrev pub LineInfo : Form (Listed ℕ)
LineInfo = Then Number λ n. Then Here λ place. Then (Run n) λ deltas. Is (record { place = place; items = deltas })

pub exact_line_info : Exact line_info LineInfo
exact_line_info = exact_then exact_number λ n. exact_then exact_here λ place. exact_then (exact_run n) λ deltas. exact_give _

abbrev pub Code : ℕ → ℕ → ℕ → Form (Listed ℕ)
Code per-proto before total =
    Then Number λ n.
    Then (Given (n ≤ per-proto)) λ _.
    Then (Given (before + n ≤ total)) λ _.
    Then Here λ place.
    Then (Many n (Field 4)) λ words.
    Is (record { place = place; items = words })

pub exact_code : (per-proto before total : ℕ) → Exact (code per-proto before total) (Code per-proto before total)
exact_code per-proto before total =
    exact_place λ first.
    exact_then exact_number λ n.
    exact_then (exact_at_most n per-proto (Instructions first)) λ _.
    exact_then (exact_at_most (before + n) total (TotalInstructions first)) λ _.
    exact_then exact_here λ place.
    exact_then (exact_many n (exact_field 4)) λ words.
    exact_give _

abbrev pub ProtosCount : ℕ → Form Count
ProtosCount limit = Then Number λ n. Then (Given (n ≤ limit)) λ _. Then Here λ place. Is (record { count = n; place = place })

pub exact_protos_count : (limit : ℕ) → Exact (protos_count limit) (ProtosCount limit)
exact_protos_count limit = exact_place λ first. exact_then exact_number λ n. exact_then (exact_at_most n limit (Prototypes first)) λ _. exact_then exact_here λ place. exact_give _
