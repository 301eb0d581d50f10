-- The parts of a function, and entries, that are read at a place (RefusedAt.antt): what their readers refuse is decided early (Order.antt), as in the reader of a chunk.
--     head_decided, tail_decided, word_decided, ..     one for each call at a place
-- Assumes nothing.
use mathlib.Core.Path.{◌≡◌, refl}
use Prim.Native.Nat.{ℕ, ◌+◌}
use lib.Dec.{leb}
use borrow.Author.Tests.{leb-false}
use Rattle.format.specs.declared.limits.ResourceLimits.{ResourceLimits}
use Rattle.format.specs.declared.refusal.Refusal.{Refusal}
use Rattle.format.specs.declared.refusal.Refusal.TheVariants as q
use Rattle.format.specs.Form.{Bytes, Form, Then, Is, Here}
use Rattle.format.specs.Read.{refused, Reader, ◌>>=◌, give, here}
use Rattle.format.specs.ReadFields as fields
use Rattle.format.specs.ReadChunk as chunk
use Rattle.format.proofs.Exact.{Exact, exact_give, exact_here, exact_then, exact_at_most, exact_run, exact_many}
use Rattle.format.proofs.ExactFields.{exact_field, exact_number, exact_string}
use Rattle.format.proofs.ExactChunk.{exact_counted, exact_counted_up_to, exact_constant, exact_upvalue, exact_anchor, exact_local}
use Rattle.read_entry.specs.Readers.{raw_local, protos_count, code}
use Rattle.read_prototype.specs.Front.{front}
use Rattle.read_prototype.specs.Parts.{head, tail}
use Rattle.demands.proofs.Causes.{ordinary}
use Rattle.demands.proofs.InOrder.{
  Steady,
  tested,
  own,
  steady_give,
  steady_here,
  steady_then,
  steady_at_most,
  steady_run,
  steady_many,
  steady_field,
  steady_number,
  steady_numbered,
  steady_string,
  steady_counted,
  steady_counted_up_to,
  steady_constant,
  steady_upvalue,
  steady_anchor,
  steady_local,
}
use Rattle.demands.proofs.Early as early
use Rattle.demands.proofs.Order.{Decided, decided}

module _ (L : ResourceLimits) where
  abbrev limit : ℕ
  limit = L.max_string_bytes

  -- ## What stands behind changes nothing
  steady_front : {low : ℕ} → Steady ordinary low (front limit)
  steady_front =
      steady_then (steady_string limit) λ source.
      steady_then (steady_then steady_number λ line. steady_then steady_number λ last. steady_give _) λ between.
      steady_then (steady_then (steady_field 1 refl) λ a. steady_then (steady_field 1 refl) λ b. steady_then (steady_field 1 refl) λ c. steady_give _) λ three.
      steady_give _

  steady_code : {low : ℕ} (before : ℕ) → Steady ordinary low (code L.max_instructions_per_proto before L.max_total_instructions)
  steady_code before =
      steady_here λ first.
      steady_then steady_number λ size.
      steady_then (steady_at_most size L.max_instructions_per_proto (q.Instructions first) (tested (q.Instructions first) refl refl own)) λ _.
      steady_then (steady_at_most (before + size) L.max_total_instructions (q.TotalInstructions first) (tested (q.TotalInstructions first) refl refl own)) λ _.
      steady_here λ place.
      steady_then (steady_many size (steady_field 4 refl)) λ words.
      steady_give _

  steady_protos_count : {low : ℕ} → Steady ordinary low (protos_count L.max_total_prototypes)
  steady_protos_count =
      steady_here λ first.
      steady_then steady_number λ protos.
      steady_then (steady_at_most protos L.max_total_prototypes (q.Prototypes first) (tested (q.Prototypes first) refl refl own)) λ _.
      steady_here λ place.
      steady_give _

  steady_head : {low : ℕ} (before : ℕ) → Steady ordinary low (head L before)
  steady_head before =
      steady_then steady_front λ x.
      steady_then
      (steady_then (steady_code before) λ instructions.
      steady_then (steady_counted_up_to L.max_constants_per_proto q.Constants (λ first. tested (q.Constants first) refl refl own) (λ low. steady_constant limit)) λ constants.
      steady_then (steady_counted_up_to L.max_upvalues_per_proto q.Upvalues (λ first. tested (q.Upvalues first) refl refl own) λ low. steady_upvalue) λ upvalues.
      steady_give _) λ lists.
      steady_then steady_protos_count λ protos.
      steady_give _

  steady_tail : {low : ℕ} → Steady ordinary low (tail limit)
  steady_tail =
      steady_then (steady_numbered λ size few. steady_here λ place. steady_then (steady_run size few) λ deltas. steady_give _) λ line_info_lem.
      steady_then (steady_counted λ low. steady_anchor) λ abs_line_info.
      steady_then (steady_counted λ low. steady_local limit) λ loc_vars.
      steady_then (steady_counted λ low. steady_string limit) λ upvalue_names_lem.
      steady_give _

  steady_raw_local : {low : ℕ} → Steady ordinary low (raw_local limit)
  steady_raw_local = steady_then (steady_string limit) λ name. steady_here λ behind. steady_then steady_number λ startpc. steady_then steady_number λ endpc. steady_give _

  -- ## The front that ends with the cause is refused so
  record Both {A : Type 0} (r : Reader A) : Type 1 where
    form : Form A
    exact : Exact r form
    early : early.Early ordinary L r

  both-give : {A : Type 0} (x : A) → Both (give x)
  both-give x = record { form = Is x; exact = exact_give x; early = early.early_give x }

  both-here : {B : Type 0} {f : ℕ → Reader B} → ((place : ℕ) → Both (f place)) → Both (here >>= f)
  both-here two = record { form = Then Here (λ place. (two place).form); exact = exact_then exact_here (λ place. (two place).exact); early = early.early_here (λ place. (two place).early) }

  both_then : {A B : Type 0} {r : Reader A} {f : A → Reader B} → Both r → ((x : A) → Both (f x)) → Both (r >>= f)
  both_then one two = record { form = Then one.form (λ x. (two x).form); exact = exact_then one.exact (λ x. (two x).exact); early = early.early_then one.exact one.early (λ x. (two x).early) }

  both_of : {A : Type 0} {r : Reader A} {F : Form A} → Exact r F → early.Early ordinary L r → Both r
  both_of {F} exact early = record { form = F; exact = exact; early = early }

  both-number : Both fields.number
  both-number = both_of exact_number (early.early_number)

  both-byte : Both (fields.field 1)
  both-byte = both_of (exact_field 1) (early.early_field 1)

  both-string : Both (fields.string limit)
  both-string = both_of (exact_string limit) (early.early_string)

  both-front : Both (front limit)
  both-front =
      both_then both-string λ source.
      both_then (both_then both-number λ line. both_then both-number λ last. both-give _) λ between.
      both_then (both_then both-byte λ a. both_then both-byte λ b. both_then both-byte λ c. both-give _) λ three.
      both-give _

  both_code : (before : ℕ) → Both (code L.max_instructions_per_proto before L.max_total_instructions)
  both_code before = both_of
      (exact_then exact_here λ first. exact_then exact_number λ size.
      exact_then (exact_at_most size L.max_instructions_per_proto (q.Instructions first)) λ _.
      exact_then (exact_at_most (before + size) L.max_total_instructions (q.TotalInstructions first)) λ _.
      exact_then exact_here λ place. exact_then (exact_many size (exact_field 4)) λ words. exact_give _)
      (early.early_numbered _ λ first size bytes d. early.soon_counts _ first size before bytes d tt (early.soon_early (
      early.early_here λ place. early.early_then (exact_many size (exact_field 4)) (early.early_many size (exact_field 4) (early.early_field 4)) λ words. early.early_give _)))

  both-protos_count : Both (protos_count L.max_total_prototypes)
  both-protos_count = both_of
      (exact_then exact_here λ first. exact_then exact_number λ protos. exact_then (exact_at_most protos L.max_total_prototypes (q.Prototypes first)) λ _. exact_then exact_here λ place. exact_give _)
      (early.early_numbered _ λ first protos bytes d.
      early.soon_test _ (leb protos L.max_total_prototypes) (q.Prototypes first) (λ k. early.read_number first protos bytes d (leb-false protos L.max_total_prototypes k)) (early.soon_early (
      early.early_here λ place. early.early_give _)))

  both-head : (before : ℕ) → Both (head L before)
  both-head before =
      both_then both-front λ x.
      both_then
      (both_then (both_code before) λ instructions.
      both_then (both_of (exact_counted_up_to L.max_constants_per_proto q.Constants (exact_constant limit)) (early.early_counted_up_to L.max_constants_per_proto q.Constants (λ place. refl) (exact_constant limit) (early.early_constant))) λ constants.
      both_then (both_of (exact_counted_up_to L.max_upvalues_per_proto q.Upvalues exact_upvalue) (early.early_counted_up_to L.max_upvalues_per_proto q.Upvalues (λ place. refl) exact_upvalue (early.early_upvalue))) λ upvalues.
      both-give _) λ lists.
      both_then both-protos_count λ protos.
      both-give _

  both-tail : Both (tail limit)
  both-tail =
      both_then (both_then both-number λ size. both-here λ place. both_then (both_of (exact_run size) (early.early_run size)) λ deltas. both-give _) λ line_info_lem.
      both_then (both_of (exact_counted exact_anchor) (early.early_counted exact_anchor (early.early_anchor))) λ abs_line_info.
      both_then (both_of (exact_counted (exact_local limit)) (early.early_counted (exact_local limit) (early.early_local))) λ loc_vars.
      both_then (both_of (exact_counted (exact_string limit)) (early.early_counted (exact_string limit) (early.early_string))) λ upvalue_names_lem.
      both-give _

  both-raw_local : Both (raw_local limit)
  both-raw_local = both_then both-string λ name. both-here λ behind. both_then both-number λ startpc. both_then both-number λ endpc. both-give _

  -- ## The calls
  module _ (place : ℕ) (s : Bytes) (p : Refusal) where
    pub head_decided : (before : ℕ) → head L before place s ≡ refused p → Decided L (head L before) place s p
    head_decided before = decided L (head L before) (steady_head before) (both-head before).early place s p

    pub tail_decided : tail limit place s ≡ refused p → Decided L (tail limit) place s p
    tail_decided = decided L (tail limit) steady_tail both-tail.early place s p

    pub word_decided : fields.field 4 place s ≡ refused p → Decided L (fields.field 4) place s p
    word_decided = decided L (fields.field 4) (steady_field 4 refl) (early.early_field 4) place s p

    pub constant_decided : chunk.constant limit place s ≡ refused p → Decided L (chunk.constant limit) place s p
    constant_decided = decided L (chunk.constant limit) (steady_constant limit) (early.early_constant) place s p

    pub upvalue_decided : chunk.upvalue place s ≡ refused p → Decided L chunk.upvalue place s p
    upvalue_decided = decided L chunk.upvalue steady_upvalue (early.early_upvalue) place s p

    pub delta_decided : fields.field 1 place s ≡ refused p → Decided L (fields.field 1) place s p
    delta_decided = decided L (fields.field 1) (steady_field 1 refl) (early.early_field 1) place s p

    pub anchor_decided : chunk.anchor place s ≡ refused p → Decided L chunk.anchor place s p
    anchor_decided = decided L chunk.anchor steady_anchor (early.early_anchor) place s p

    pub local_decided : raw_local limit place s ≡ refused p → Decided L (raw_local limit) place s p
    local_decided = decided L (raw_local limit) steady_raw_local both-raw_local.early place s p

    pub string_decided : fields.string limit place s ≡ refused p → Decided L (fields.string limit) place s p
    string_decided = decided L (fields.string limit) (steady_string limit) (early.early_string) place s p
