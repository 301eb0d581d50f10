-- The readers of the parts of a function read exactly a form.
-- Assumes nothing.
use mathlib.Core.Path.{◌≡◌}
use Prim.Native.Nat.{ℕ, ◌+◌, ◌≤◌}
use lib.ListN.{length}
use Rattle.format.specs.declared.limits.ResourceLimits.{ResourceLimits}
use Rattle.format.specs.declared.refusal.Refusal.TheVariants.{Instructions, TotalInstructions, Constants, Upvalues, Prototypes}
use Rattle.format.specs.declared.entry.UpvalueDesc.{UpvalueDesc}
use Rattle.format.specs.Form.{Bytes, Form, Then, Is, Here, Given, Run, Many}
use Rattle.format.specs.GrammarFields.{Field, String}
use Rattle.format.specs.Reading.{ConstantValue}
use Rattle.format.specs.GrammarChunk.{Listed, Upvalue}
use Rattle.format.specs.Read.{ok}
use Rattle.format.proofs.Exact.{Exact, exact_give, exact_here, exact_then, exact_place, exact_at_most, exact_run, exact_many}
use Rattle.format.proofs.ExactFields.{exact_field, exact_string}
use Rattle.format.proofs.ExactChunk.{exact_upvalue}
use Rattle.format.proofs.Every.{Every, any, every_then, every_is, every_given, every_many}
use Rattle.format_strict.specs.GrammarStrict.{Int, StrictCounted, StrictCountedUpTo, StrictConstant, StrictAnchor, StrictLocal}
use Rattle.format_strict.proofs.ExactStrict.{exact_int, exact_strict_counted, exact_strict_counted_up_to, exact_strict_constant, exact_strict_anchor, exact_strict_local}
use Rattle.read_entry.specs.Readers.{Count}
use Rattle.read_prototype.specs.Front.{Front}
use Rattle.read_prototype.specs.Parts.{Head, Tail}
use Rattle.read_prototype.proofs.FrontAnswers.{SizesForm, exact_sizes}
use Rattle.strict_walk.specs.Inner.StrictParts.{strict_code, strict_protos, strict_line_info, strict_front, strict_lists, strict_head, strict_tail}

-- ## The front
abbrev FrontForm : ℕ → Form Front
FrontForm limit = Then (String limit) λ source. Then Int λ first. Then Int λ last. Then SizesForm λ three. Is (record { source = source; lines = record { line_defined = first; last_line_defined = last }; sizes = three })

pub exact_front : (limit : ℕ) → Exact (strict_front limit) (FrontForm limit)
exact_front limit = exact_then (exact_string limit) λ _. exact_then exact_int λ _. exact_then exact_int λ _. exact_then exact_sizes λ _. exact_give _

-- ## Lists
abbrev CodeForm : ℕ → ℕ → ℕ → Form (Listed ℕ)
CodeForm per-proto before total =
    Then Int λ n.
    Then (Given (n ≤ per-proto)) λ _.
    Then (Given (before + n ≤ total)) λ _.
    Then Here λ place.
    Then (Many n (Field 4)) λ words.
    Is (record { place = place; items = words })

pub exact_code : (per-proto before total : ℕ) → Exact (strict_code per-proto before total) (CodeForm per-proto before total)
exact_code per-proto before total =
    exact_place λ first.
    exact_then exact_int λ n.
    exact_then (exact_at_most n per-proto (Instructions first)) λ _.
    exact_then (exact_at_most (before + n) total (TotalInstructions first)) λ _.
    exact_then exact_here λ place.
    exact_then (exact_many n (exact_field 4)) λ words.
    exact_give _

every_code : (per-proto before total : ℕ) → Every (CodeForm per-proto before total) (λ l. before + length l.items ≤ total)
every_code per-proto before total = every_then any λ n _. every_then any λ _ _. every_then every_given λ _ fits. every_then any λ place _. every_then (every_many n any) λ words q. every_is (rw q.0 fits)

abbrev ListsForm : ResourceLimits → Form (Listed ConstantValue × Listed UpvalueDesc)
ListsForm L =
    Then (StrictCountedUpTo L.max_constants_per_proto (StrictConstant L.max_string_bytes)) λ constants.
    Then (StrictCountedUpTo L.max_upvalues_per_proto Upvalue) λ upvalues.
    Is (constants, upvalues)

pub exact_lists : (L : ResourceLimits) → Exact (strict_lists L) (ListsForm L)
exact_lists L =
    exact_then (exact_strict_counted_up_to L.max_constants_per_proto Constants (exact_strict_constant L.max_string_bytes)) λ _.
    exact_then (exact_strict_counted_up_to L.max_upvalues_per_proto Upvalues exact_upvalue) λ _.
    exact_give _

abbrev LineInfoForm : Form (Listed ℕ)
LineInfoForm = Then Int λ n. Then Here λ place. Then (Run n) λ deltas. Is (record { place = place; items = deltas })

pub exact_line_info : Exact strict_line_info LineInfoForm
exact_line_info = exact_then exact_int λ n. exact_then exact_here λ place. exact_then (exact_run n) λ deltas. exact_give _

-- ## The two parts
abbrev ProtosForm : ℕ → Form Count
ProtosForm limit = Then Int λ n. Then (Given (n ≤ limit)) λ _. Then Here λ place. Is (record { count = n; place = place })

exact_protos : (limit : ℕ) → Exact (strict_protos limit) (ProtosForm limit)
exact_protos limit = exact_place λ first. exact_then exact_int λ n. exact_then (exact_at_most n limit (Prototypes first)) λ _. exact_then exact_here λ place. exact_give _

abbrev HeadForm : ResourceLimits → ℕ → Form Head
HeadForm L before =
    Then (FrontForm L.max_string_bytes) λ front.
    Then (CodeForm L.max_instructions_per_proto before L.max_total_instructions) λ instructions.
    Then (ListsForm L) λ two.
    Then (ProtosForm L.max_total_prototypes) λ protos.
    Is (record { front = front; lists = record { instructions = instructions; constants = two.0; upvalues = two.1 }; protos = protos })

pub exact_head : (L : ResourceLimits) (before : ℕ) → Exact (strict_head L before) (HeadForm L before)
exact_head L before =
    exact_then (exact_front L.max_string_bytes) λ _.
    exact_then (exact_code L.max_instructions_per_proto before L.max_total_instructions) λ _.
    exact_then (exact_lists L) λ _.
    exact_then (exact_protos L.max_total_prototypes) λ _.
    exact_give _

-- the instructions of all functions so far stay within the limit
pub head_total : (L : ResourceLimits) (before at : ℕ) (s : Bytes) {h : Head} {to : ℕ} {rest : Bytes} → strict_head L before at s ≡ ok h to rest → before + length h.lists.instructions.items ≤ L.max_total_instructions
head_total L before at s {h} e =
    let split = (exact_head L before).sound {at = at} {s = s} e in
    every.holds at split.bytes h split.spelt
  where
    every : Every (HeadForm L before) (λ h. before + length h.lists.instructions.items ≤ L.max_total_instructions)
    every = every_then any λ front _. every_then (every_code L.max_instructions_per_proto before L.max_total_instructions) λ code fits. every_then any λ two _. every_then any λ protos _. every_is fits

abbrev TailForm : ℕ → Form Tail
TailForm limit =
    Then LineInfoForm λ a.
    Then (StrictCounted StrictAnchor) λ b.
    Then (StrictCounted (StrictLocal limit)) λ c.
    Then (StrictCounted (String limit)) λ d.
    Is (record { line_info_lem = a; abs_line_info = b; loc_vars = c; upvalue_names_lem = d })

pub exact_tail : (limit : ℕ) → Exact (strict_tail limit) (TailForm limit)
exact_tail limit =
    exact_then exact_line_info λ _.
    exact_then (exact_strict_counted exact_strict_anchor) λ _.
    exact_then (exact_strict_counted (exact_strict_local limit)) λ _.
    exact_then (exact_strict_counted (exact_string limit)) λ _.
    exact_give _
