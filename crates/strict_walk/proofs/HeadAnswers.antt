-- The parts of a function before and behind those that nest in it: what the code shows of each list is what the reader shows of the part.
--     three            the three bytes of a function end as an upvalue's do
--     length-..        of what is shown of a list's length: what was read
--     front-refused .. head_read       `pass_head`, by what its calls showed
--     HeadRead         a head that was read, of which two counts were shown
-- Assumes nothing.
use Rattle.std.specs.Prelude.{Ok, Err}
use mathlib.Core.Path.{◌≡◌, refl, sym, ◌∙◌, ap}
use mathlib.Core.List.{[], ◌∷◌}
use Prim.Native.Nat.{ℕ, ◌+◌, ◌≤◌}
use native.Mathlib.Omega.{arith}
use lib.Dec.{leb}
use lib.ListN.{length, drop}
use Rattle.format.specs.declared.limits.ResourceLimits.{ResourceLimits}
use Rattle.format.specs.declared.refusal.Refusal.{Refusal}
use Rattle.format.specs.declared.refusal.Refusal.TheVariants.{Prototypes}
use Rattle.format.specs.declared.entry.UpvalueDesc.{UpvalueDesc}
use Rattle.format.specs.Form.{Bytes}
use Rattle.format.specs.Reading.{ConstantValue}
use Rattle.format.specs.GrammarChunk.{Listed}
use Rattle.format.specs.Read.{Read, ok, refused, next, ◌>>=◌, give, many}
use Rattle.format.specs.ReadFields.{byte}
use Rattle.format.specs.ReadChunk.{upvalue}
use Rattle.format_strict.specs.ReadStrict.{int}
use Rattle.slice.specs.declared.cursor.Cursor.{Cursor}
use Rattle.slice.specs.Shown.{cursor_at}
use Rattle.slice.specs.Inner.Results.{cursor_result}
use Rattle.read_field.specs.Shown.{shown}
use Rattle.read_field.proofs.Shows.{Was, onward, cursor_err, cursor_ok, shown_err, shown_ok}
use Rattle.read_entry.specs.Readers.{Count}
use Rattle.read_list.proofs.Listing.{tested_then}
use Rattle.read_list.proofs.Counts.{placed}
use Rattle.read_prototype.specs.declared.front.Sizes.{Sizes}
use Rattle.read_prototype.specs.Front.{Front, sizes}
use Rattle.read_prototype.specs.Parts.{Head}
use Rattle.read_prototype.proofs.On.{taken, stopped}
use Rattle.strict_entry.proofs.Chains.{value, alike}
use Rattle.strict_walk.specs.Inner.StrictParts.{int_up_to, strict_protos, strict_code, strict_front, strict_lists, strict_head}
use Rattle.strict_walk.specs.Inner.Results.{length_result, head_passed}
use Rattle.strict_walk.proofs.Lists.{exact_int_up_to}
use Rattle.strict_walk.proofs.Exacts.{exact_front, exact_code, exact_lists, exact_head, head_total}

-- ## Three bytes
abbrev upvalue_of : ℕ → ℕ → ℕ → UpvalueDesc
upvalue_of a b c = record { instack = a; idx = b; kind = c }

abbrev sizes_of : ℕ → ℕ → ℕ → Sizes
sizes_of a b c = record { numparams = a; is_vararg = b; maxstacksize = c }

pub three : {B : Type 0} (f : Sizes → B) (at : ℕ) (s : Bytes) → cursor_result (many 1 upvalue at s) ≡ cursor_result ((sizes >>= λ z. give (f z)) at s)
three f at s = value (upvalue at s) (λ x. x ∷ []) ∙ bytes ∙ sym (value (sizes at s) f)
  where
    bytes : cursor_result (upvalue at s) ≡ cursor_result (sizes at s)
    bytes =
        alike (byte at s) (λ a. byte >>= λ b. byte >>= λ c. give (upvalue_of a b c)) (λ a. byte >>= λ b. byte >>= λ c. give (sizes_of a b c)) λ a at s.
        alike (byte at s) (λ b. byte >>= λ c. give (upvalue_of a b c)) (λ b. byte >>= λ c. give (sizes_of a b c)) λ b at s.
        value (byte at s) (upvalue_of a b) ∙ sym (value (byte at s) (sizes_of a b))

-- ## A list's length
length_err : {A : Type 0} (o : Read (Listed A)) (q : Refusal) → Err q ≡ length_result o → o ≡ refused q
length_err (ok l to rest) q e = absurd (let z : ◌≡◌ {A = ℕ} 0 1 = cc in omega arith)
length_err (refused p) q e = cc

record WasLong {A : Type 0} (o : Read (Listed A)) (n to : ℕ) : Type 0 where
  value : Listed A
  was : Was o value to
  long : n ≡ length value.items

length-ok : {A : Type 0} (o : Read (Listed A)) (n : ℕ) (c : Cursor) → Ok (n, c) ≡ length_result o → WasLong o n c.at
length-ok (ok l to rest) n c e =
    let both : ◌≡◌ {A = ℕ × Cursor} (n, c) (length l.items, cursor_at to) = cc in
    record { value = l; was = record { rest = rest; is = rw (ap (λ p. p.1) both) }; long = ap (λ p. p.0) both }
length-ok (refused p) n c e = absurd (let z : ◌≡◌ {A = ℕ} 0 1 = cc in omega arith)

-- ## How many functions nest in it
protos_are : (limit at : ℕ) (s : Bytes) → strict_protos limit at s ≡ next (int_up_to limit (Prototypes at) at s) placed
protos_are limit at s = tested_then (λ n. leb n limit) (Prototypes at) placed (int at s)

-- ## A function before those that nest in it
module _ (s : Bytes) (L : ResourceLimits) (before at : ℕ) where
  abbrev front_at : Read Front
  front_at = strict_front L.max_string_bytes at (drop at s)

  abbrev head_at_lem : Read Head
  head_at_lem = strict_head L before at (drop at s)

  pub front-refused : (q : Refusal) → Err q ≡ cursor_result front_at → Err q ≡ head_passed head_at_lem
  front-refused q e = sym (ap head_passed (stopped _ (cursor_err front_at q e)))

  module _ (c₁ : Cursor) (e₁ : Ok c₁ ≡ cursor_result front_at) where
    abbrev code_at : Read (Listed ℕ)
    code_at = strict_code L.max_instructions_per_proto before L.max_total_instructions c₁.at (drop c₁.at s)

    to_code : head_at_lem ≡ next code_at (λ instructions. strict_lists L >>= λ two. strict_protos L.max_total_prototypes >>= λ protos. give (record { front = (cursor_ok front_at c₁ e₁).value; lists = record { instructions = instructions; constants = two.0; upvalues = two.1 }; protos = protos }))
    to_code = taken _ (onward (exact_front L.max_string_bytes) s at (cursor_ok front_at c₁ e₁).was)

    pub code-refused : (q : Refusal) → Err q ≡ length_result code_at → Err q ≡ head_passed head_at_lem
    code-refused q e = sym (ap head_passed (to_code ∙ stopped _ (length_err code_at q e)))

    module _ (n : ℕ) (c₂ : Cursor) (e₂ : Ok (n, c₂) ≡ length_result code_at) where
      abbrev lists_at : Read (Listed ConstantValue × Listed UpvalueDesc)
      lists_at = strict_lists L c₂.at (drop c₂.at s)

      to_lists : head_at_lem ≡ next lists_at (λ two. strict_protos L.max_total_prototypes >>= λ protos. give (record { front = (cursor_ok front_at c₁ e₁).value; lists = record { instructions = (length-ok code_at n c₂ e₂).value; constants = two.0; upvalues = two.1 }; protos = protos }))
      to_lists = to_code ∙ taken _ (onward (exact_code L.max_instructions_per_proto before L.max_total_instructions) s c₁.at (length-ok code_at n c₂ e₂).was)

      pub lists-refused : (q : Refusal) → Err q ≡ cursor_result lists_at → Err q ≡ head_passed head_at_lem
      lists-refused q e = sym (ap head_passed (to_lists ∙ stopped _ (cursor_err lists_at q e)))

      module _ (c₃ : Cursor) (e₃ : Ok c₃ ≡ cursor_result lists_at) where
        abbrev protos-at : Read ℕ
        protos-at = int_up_to L.max_total_prototypes (Prototypes c₃.at) c₃.at (drop c₃.at s)

        abbrev made : Count → Head
        made protos =
            let two = (cursor_ok lists_at c₃ e₃).value in
            record { front = (cursor_ok front_at c₁ e₁).value; lists = record { instructions = (length-ok code_at n c₂ e₂).value; constants = two.0; upvalues = two.1 }; protos = protos }

        to_protos : head_at_lem ≡ next (next protos-at placed) (λ protos. give (made protos))
        to_protos = to_lists ∙ taken _ (onward (exact_lists L) s c₂.at (cursor_ok lists_at c₃ e₃).was) ∙ ap (λ o. next o (λ protos. give (made protos))) (protos_are L.max_total_prototypes c₃.at (drop c₃.at s))

        pub protos-refused : (q : Refusal) → Err q ≡ shown protos-at → Err q ≡ head_passed head_at_lem
        protos-refused q e = sym (ap head_passed (to_protos ∙ ap (λ o. next (next o placed) (λ protos. give (made protos))) (shown_err protos-at q e)))

        pub head_read : (p : ℕ) (c₄ : Cursor) → Ok (p, c₄) ≡ shown protos-at → Ok (n, p, c₄) ≡ head_passed head_at_lem
        head_read p c₄ e =
            ap (λ m. Ok (m, p, c₄)) (length-ok code_at n c₂ e₂).long
            ∙ sym (ap head_passed (to_protos ∙ ap (λ o. next (next o placed) (λ protos. give (made protos))) (onward (exact_int_up_to L.max_total_prototypes (Prototypes c₃.at)) s c₃.at (shown_ok protos-at p c₄ e))))

  -- ## Back to what was read
  pub head-not : (o : Read Head) (q : Refusal) → Err q ≡ head_passed o → o ≡ refused q
  head-not (ok h to rest) q e = absurd (let z : ◌≡◌ {A = ℕ} 0 1 = cc in omega arith)
  head-not (refused p) q e = cc

  pub record HeadRead (n p : ℕ) (c : Cursor) : Type 0 where
    pub value : Head
    pub is : head_at_lem ≡ ok value c.at (drop c.at s)
    pub instructions : n ≡ length value.lists.instructions.items
    pub protos : p ≡ value.protos.count
    pub total : before + n ≤ L.max_total_instructions

  pub head_ok : (n p : ℕ) (c : Cursor) → Ok (n, p, c) ≡ head_passed head_at_lem → HeadRead n p c
  head_ok n p c e = by head_at_lem refl e
    where
      by : (o : Read Head) → head_at_lem ≡ o → Ok (n, p, c) ≡ head_passed o → HeadRead n p c
      by (refused q) is e = absurd (let z : ◌≡◌ {A = ℕ} 0 1 = cc in omega arith)
      by (ok h to rest) is e =
          let all : ◌≡◌ {A = ℕ × ℕ × Cursor} (n, p, c) (length h.lists.instructions.items, h.protos.count, cursor_at to) = cc in
          let behind : c ≡ cursor_at to = ap (λ a. a.2) all in
          let long : n ≡ length h.lists.instructions.items = ap (λ a. a.0) all in
          let place : c.at ≡ to = ap (λ c. c.at) behind in
          let on = onward (exact_head L before) s at (record { rest = rest; is = is }) in
          record {
            value = h;
            is = on ∙ ap (λ to. ok h to (drop to s)) (sym place);
            instructions = long;
            protos = ap (λ a. a.1) all;
            total = rw long (head_total L before at (drop at s) is);
          }
