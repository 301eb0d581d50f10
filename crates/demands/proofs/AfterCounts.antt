-- Where the words and the constants of a function begin: just after their counts, however these are spelt, and also where there are none.
--     AfterCounts L s p    behind the front of the function p the count of its words is read, and then the reader stands where they begin; behind the words the count of its constants, and it stands where these begin
--     after-counts         so it is with every function of a chunk that is read
-- Assumes nothing.
use mathlib.Core.Path.{◌≡◌, ◌∙◌, ap}
use mathlib.Core.Option.{some}
use Prim.Native.Nat.{ℕ, ◌+◌}
use lib.ListN.{length, drop, get_elem?}
use Rattle.format.specs.declared.limits.ResourceLimits.{ResourceLimits}
use Rattle.format.specs.declared.refusal.Refusal.{Refusal}
use Rattle.format.specs.declared.refusal.Refusal.TheVariants.{Instructions, TotalInstructions, Constants}
use Rattle.format.specs.Form.{Bytes, Form}
use Rattle.format.specs.Reading.{Reading, Prototype}
use Rattle.format.specs.Read.{Reader, next, ◌>>◌, many}
use Rattle.format.specs.ReadFields.{field, number}
use Rattle.format.specs.ReadChunk.{counted_up_to, shown, read}
use Rattle.format.proofs.Exact.{Exact, exact_at_most, exact_many}
use Rattle.format.proofs.ExactFields.{exact_field, exact_number}
use Rattle.format.proofs.ExactChunk.{exact_counted_up_to, exact_constant, exact_upvalue}
use Rattle.format.proofs.Every.{every_many}
use Rattle.format.proofs.Every as every
use Rattle.format.proofs.Left.{left}
use Rattle.format.proofs.Located.{AtPlace, any, at_give, at_here, at_then}
use Rattle.read_entry.specs.Readers.{code}
use Rattle.read_list.proofs.Within.{exact_code, exact_protos_count}
use Rattle.read_prototype.specs.Front.{front}
use Rattle.read_prototype.specs.Parts.{head_lists, head}
use Rattle.read_prototype.proofs.FrontAnswers.{exact_front}
use Rattle.read_prototype.proofs.HeadAnswers.{exact_lists}
use Rattle.demands.proofs.SpeltHere.{limit_stays}
use Rattle.demands.proofs.Nested.{Got, got, both, all_parted}

pub record AfterCounts (L : ResourceLimits) (s : Bytes) (p : Prototype) : Type 0 where
  pub words : Got s p.start (front L.max_string_bytes >> number) p.places.instructions (length p.instructions)
  pub constants : Got s p.places.instructions (many (length p.instructions) (field 4) >> number) p.places.constants (length p.constants)

module _ (s : Bytes) where
  -- one reader behind another
  then_got : {A B : Type 0} {r : Reader A} {F : Form A} {at mid to : ℕ} {x : A} {q : Reader B} {y : B} → Exact r F → Got s at r mid x → Got s mid q to y → Got s at (r >> q) to y
  then_got {at} {mid} {q} exact a b = record { rest = b.rest; is = ap (λ o. next o (λ _. q)) a.is ∙ ap (q mid) (left exact s at a.is) ∙ b.is }

  as_many : {A : Type 0} {r : Reader A} {F : Form A} {at : ℕ} → Exact r F → (n : ℕ) → AtPlace s at (many n r) (λ to xs. length xs ≡ n)
  as_many {at} one n = record { holds = λ e. ((every_many n every.any).holds _ _ _ ((exact_many n one).sound {at = at} {s = drop at s} e).spelt).0 }

  -- ## Lists behind their counts
  at-counted : {A : Type 0} {r : Reader A} {F : Form A} {at : ℕ} (limit : ℕ) (refusal : ℕ → Refusal) → Exact r F → AtPlace s at (counted_up_to limit refusal r) (λ to l. Got s at number l.place (length l.items))
  at-counted limit refusal one =
      at_here λ first.
      at_then exact_number got λ n mid counted.
      at_then (exact_at_most n limit (refusal first)) (limit_stays n limit (refusal first)) λ _ to same.
      at_here λ place.
      at_then (exact_many n one) (as_many one n) λ items _ size.
      at_give λ p _. rw (p, ← same, size) counted

  at_code : {at : ℕ} (per-proto before total : ℕ) → AtPlace s at (code per-proto before total) (λ to l. Got s at number l.place (length l.items) × Got s l.place (many (length l.items) (field 4)) to l.items)
  at_code per-proto before total =
      at_here λ first.
      at_then exact_number got λ n mid counted.
      at_then (exact_at_most n per-proto (Instructions first)) (limit_stays n per-proto (Instructions first)) λ _ one same.
      at_then (exact_at_most (before + n) total (TotalInstructions first)) (limit_stays (before + n) total (TotalInstructions first)) λ _ two again.
      at_here λ place.
      at_then (exact_many n (exact_field 4)) (both got (as_many (exact_field 4) n)) λ items _ h.
      at_give λ p _. (rw (p, ← again, ← same, h.1) counted, rw (p, h.1) h.0)

  -- ## A function up to those that nest in it
  module _ (L : ResourceLimits) (before : ℕ) where
    at-lists : {at : ℕ} → AtPlace s at (head_lists L before) (λ to l.
        Got s at number l.instructions.place (length l.instructions.items)
        × Got s l.instructions.place (many (length l.instructions.items) (field 4) >> number) l.constants.place (length l.constants.items))
    at-lists =
        at_then (exact_code L.max_instructions_per_proto before L.max_total_instructions) (at_code L.max_instructions_per_proto before L.max_total_instructions) λ words _ h.
        at_then (exact_counted_up_to L.max_constants_per_proto Constants (exact_constant _)) (at-counted L.max_constants_per_proto Constants (exact_constant L.max_string_bytes)) λ constants _ k.
        at_then (exact_counted_up_to _ _ exact_upvalue) any λ _ _ _.
        at_give (h.0, then_got (exact_many (length words.items) (exact_field 4)) h.1 k)

    at_head : {at : ℕ} → AtPlace s at (head L before) (λ to h.
        Got s at (front L.max_string_bytes >> number) h.lists.instructions.place (length h.lists.instructions.items)
        × Got s h.lists.instructions.place (many (length h.lists.instructions.items) (field 4) >> number) h.lists.constants.place (length h.lists.constants.items))
    at_head =
        at_then (exact_front L.max_string_bytes) got λ _ _ h.
        at_then (exact_lists L before) at-lists λ lists _ k.
        at_then (exact_protos_count L.max_total_prototypes) any λ _ _ _.
        at_give (then_got (exact_front L.max_string_bytes) h k.0, k.1)

pub after-counts : (L : ResourceLimits) (s : Bytes) (r : Reading) → read L s ≡ shown r → (f : ℕ) (p : Prototype) → get_elem? r.functions f ≡ some p → AfterCounts L s p
after-counts L s r is f p there =
    let parted = all_parted L s r is f there in
    let both = (at_head s L 0).holds parted.at_start.is in
    rw parted.is (record { words = both.0; constants = both.1 })
