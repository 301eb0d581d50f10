-- The two parts of a function at their place: how long the copy's bytes of each are, and where its lists stand.
-- Assumes nothing.
use mathlib.Core.Path.{◌≡◌, ◌∙◌, ap}
use mathlib.Core.Bool.{Bool, true, false}
use mathlib.Core.List.{[], ◌∷◌, ◌++◌, append_assoc}
use mathlib.Core.Option.{Option, none, some}
use Prim.Native.Nat.{ℕ, suc, ◌+◌, ◌≤◌}
use native.Mathlib.Omega.{arith}
use lib.ListN.{length, drop, length-drop, length-append}
use lib.Seq.{length-take-le}
use Rattle.format.specs.declared.limits.ResourceLimits.{ResourceLimits}
use Rattle.format.specs.declared.refusal.Refusal.TheVariants.{Instructions, TotalInstructions, Constants, Upvalues, Prototypes}
use Rattle.format.specs.Form.{Bytes, Below}
use Rattle.format.specs.GrammarFields.{LuaString, little}
use Rattle.format.specs.GrammarChunk.{Listed}
use Rattle.format.specs.Read.{ok, Reader, ◌>>=◌, give, run, many}
use Rattle.format.specs.ReadFields.{field, string}
use Rattle.format.specs.ReadChunk.{constant, upvalue, anchor, local}
use Rattle.format.specs.Shortest.{shortest}
use Rattle.format.specs.Copy.{field_bytes, option_bytes}
use Rattle.format.proofs.Exact.{exact_then, exact_give, exact_at_most, exact_run}
use Rattle.format.proofs.ExactFields.{exact_field, exact_number, exact_string}
use Rattle.format.proofs.ExactChunk.{exact_counted, exact_counted_up_to, exact_constant, exact_upvalue, exact_anchor, exact_local}
use Rattle.format.proofs.ShortestLaws.{length-zero}
use Rattle.format.proofs.Located.{Found, AtPlace, at_give, at_here, at_then, at-string, StandsIf}
use Rattle.read_entry.specs.Readers.{Count, protos_count, code, line_info}
use Rattle.read_list.proofs.Within.{exact_code, exact_line_info, exact_protos_count}
use Rattle.read_prototype.specs.Front.{Front, front, lines, sizes}
use Rattle.read_prototype.specs.Parts.{HeadLists, head_lists, Head, head, Tail, tail}
use Rattle.read_prototype.proofs.FrontAnswers.{exact_front}
use Rattle.read_prototype.proofs.HeadAnswers.{exact_lists}
use Rattle.copy_put.proofs.Stores.{size_pos}
use Rattle.copy_entry.proofs.Entries.{Raw, at-run, raw_field, raw_upvalue, below_part}
use Rattle.copy_parts.specs.Inner.Parts.{source_bytes, lines_bytes, sizes_bytes, lists_bytes, head_bytes, tail_bytes}
use Rattle.copy_parts.proofs.Lengths.{Short, short_then, short-number, raw_short, stays, short_string, short-anchor, short-local, short_constant, Listing, listed, counted-at, up_to-at}

at_as : {A : Type 0} {s : Bytes} {at : ℕ} {r : Reader A} {P Q : ℕ → A → Type 0} → ((to : ℕ) (x : A) → P to x → Q to x) → AtPlace s at r P → AtPlace s at r Q
at_as f h = record { holds = λ {x} {to} e. f to x (h.holds e) }

-- ## Behind the nested functions
pub record TailAt (s : Bytes) (limit at to : ℕ) (t : Tail) : Type 0 where
  pub short : Short (tail_bytes t) at to
  pub line_info_lem : Found s (run (length t.line_info_lem.items)) t.line_info_lem.place t.line_info_lem.items
  pub abs_line_info : Found s (many (length t.abs_line_info.items) anchor) t.abs_line_info.place t.abs_line_info.items
  pub loc_vars : Found s (many (length t.loc_vars.items) (local limit)) t.loc_vars.place t.loc_vars.items
  pub upvalue_names_lem : Found s (many (length t.upvalue_names_lem.items) (string limit)) t.upvalue_names_lem.place t.upvalue_names_lem.items

record DeltasAt (s : Bytes) (at to : ℕ) (l : Listed ℕ) : Type 0 where
  short : Short (shortest (length l.items) ++ l.items) at to
  found : Found s (run (length l.items)) l.place l.items

deltas_at : {s : Bytes} (at : ℕ) → AtPlace s at line_info (λ to l. DeltasAt s at to l)
deltas_at {s} at = at_then exact_number short-number λ n mid h. record { holds = λ e. (whole n mid h).holds e }
  where
    items : (n mid : ℕ) → AtPlace s mid (run n) (λ to b. (Raw s (λ b. b) n mid to b) × Found s (run n) mid b)
    items n mid = record { holds = λ {x} {to} {rest} e. ((at-run n).holds e, record { to = to; rest = rest; is = e }) }

    whole : (n mid : ℕ) → Short (shortest n) at mid → AtPlace s mid (run n >>= λ deltas. give (record { place = mid; items = deltas })) (λ to l. DeltasAt s at to l)
    whole n mid h =
        at_then (exact_run n) (items n mid) λ b to k.
        at_give (let size : length b ≡ n = ap length k.0.same ∙ length-take-le n (drop mid s) (rw length-drop k.0.inside) in
        record { short = short_then {a = shortest (length b)} (rw size h) (raw_short k.0); found = rw size k.1 })

pub tail-at : {s : Bytes} (limit at : ℕ) → AtPlace s at (tail limit) (λ to t. TailAt s limit at to t)
tail-at limit at =
    at_then exact_line_info (deltas_at at) λ line_info_lem _ h.
    at_then (exact_counted exact_anchor) (counted-at exact_anchor short-anchor _) λ abs_line_info _ k.
    at_then (exact_counted (exact_local limit)) (counted-at (exact_local limit) (short-local limit) _) λ loc_vars _ m.
    at_then (exact_counted (exact_string limit)) (counted-at (exact_string limit) (λ at. short_string limit) _) λ upvalue_names_lem _ n.
    at_give (record {
      short = short_then h.short (short_then k.short (short_then m.short n.short));
      line_info_lem = h.found;
      abs_line_info = k.found;
      loc_vars = m.found;
      upvalue_names_lem = n.found;
    })

-- ## Before them
pub record ListsAt (s : Bytes) (limit at to : ℕ) (h : HeadLists) : Type 0 where
  pub short : Short (lists_bytes h) at to
  pub instructions : Found s (many (length h.instructions.items) (field 4)) h.instructions.place h.instructions.items
  pub constants : Found s (many (length h.constants.items) (constant limit)) h.constants.place h.constants.items
  pub upvalues : Found s (many (length h.upvalues.items) upvalue) h.upvalues.place h.upvalues.items

pub record FrontAt (s : Bytes) (at to : ℕ) (f : Front) : Type 0 where
  pub short : (named : Bool) → Short (source_bytes named f.source ++ (lines_bytes f.lines ++ sizes_bytes f.sizes)) at to
  pub source : StandsIf s f.source
  pub sizes : sizes_bytes f.sizes ≡ f.sizes.numparams ∷ f.sizes.is_vararg ∷ f.sizes.maxstacksize ∷ []

-- the lists, read at some place
pub record Somewhere (s : Bytes) (L : ResourceLimits) (before : ℕ) (h : HeadLists) : Type 0 where
  pub from : ℕ
  pub to : ℕ
  pub rest : Bytes
  pub reads : head_lists L before from (drop from s) ≡ ok h to rest

pub record HeadAt (s : Bytes) (L : ResourceLimits) (before at to : ℕ) (h : Head) : Type 0 where
  pub short : (named : Bool) → Short (head_bytes named h) at to
  pub source : StandsIf s h.front.source
  pub lists : Somewhere s L before h.lists
  pub sizes : sizes_bytes h.front.sizes ≡ h.front.sizes.numparams ∷ h.front.sizes.is_vararg ∷ h.front.sizes.maxstacksize ∷ []

-- a string takes a byte at least
option_byte : (t : Option LuaString) → 1 ≤ length (option_bytes t)
option_byte none = omega (arith, length-zero)
option_byte (some t) = rw length-append (omega (arith, size_pos (suc (length t.bytes))))

source-short : (named : Bool) (t : Option LuaString) {at to : ℕ} → Short (option_bytes t) at to → Short (source_bytes named t) at to
source-short true t h = h
source-short false t h = record { on = h.on; short = omega (arith, h.short, option_byte t, length-zero) }

-- a byte is its own spelling
little-one : (b : Bytes) → Below 256 b → length b ≡ 1 → field_bytes 1 (little b) ≡ little b ∷ []
little-one [] h e = absurd (omega arith)
little-one (x ∷ []) h e = ap (λ k. k ∷ []) (let low = h.0 in omega arith)
little-one (x ∷ y ∷ b) h e = absurd (omega arith)

protos-at : {s : Bytes} (limit at : ℕ) → AtPlace s at (protos_count limit) (λ to c. Short (shortest c.count) at to)
protos-at limit at =
    at_here λ first.
    at_then exact_number short-number λ n mid h.
    at_then (exact_at_most n limit (Prototypes first)) (stays n limit (Prototypes first)) λ _ mid' same.
    at_here λ place.
    at_give λ _ _. rw same h

module _ (s : Bytes) (bytes : Below 256 s) where
  code_at : (per-proto before total at : ℕ) → AtPlace s at (code per-proto before total) (λ to l. Listing s (field 4) (field_bytes 4) at to l)
  code_at per-proto before total at =
      at_here λ first.
      at_then exact_number short-number λ n mid h.
      at_then (exact_at_most n per-proto (Instructions first)) (stays n per-proto (Instructions first)) λ _ mid₁ e₁.
      at_then (exact_at_most (before + n) total (TotalInstructions first)) (stays (before + n) total (TotalInstructions first)) λ _ mid₂ e₂.
      at_as (λ to l k _. k) (listed (exact_field 4) (λ at. at_as (λ to x. raw_short) (raw_field s bytes 4 at)) at mid₂ n (rw (e₂, e₁) h))

  pub lists_at : (L : ResourceLimits) (before at : ℕ) → AtPlace s at (head_lists L before) (λ to h. ListsAt s L.max_string_bytes at to h)
  lists_at L before at =
      at_then (exact_code _ _ _) (code_at _ _ _ at) λ instructions _ h.
      at_then (exact_counted_up_to _ Constants (exact_constant _)) (up_to-at (exact_constant _) (short_constant s bytes _) _ Constants _) λ constants _ k.
      at_then (exact_counted_up_to _ Upvalues exact_upvalue) (up_to-at exact_upvalue (λ at. at_as (λ to x. raw_short) (raw_upvalue s bytes at)) _ Upvalues _) λ upvalues _ m.
      at_give (record { short = short_then h.short (short_then k.short m.short); instructions = h.found; constants = k.found; upvalues = m.found })

  byte_at : (at : ℕ) → AtPlace s at (field 1) (λ to v. (Short (field_bytes 1 v) at to) × (field_bytes 1 v ≡ v ∷ []))
  byte_at at =
      at_then (exact_run 1) (at-run 1) λ b to h.
      at_give (
        record { on = (raw_short h).on; short = omega (arith, h.place) },
        little-one b (rw h.same (below_part s 1 at bytes)) (ap length h.same ∙ length-take-le 1 (drop at s) (rw length-drop h.inside)),
      )

  front_at : (limit at : ℕ) → AtPlace s at (front limit) (λ to f. FrontAt s at to f)
  front_at limit at =
      at_then (exact_string limit) both λ source _ h.
      at_then (exact_then exact_number λ _. exact_then exact_number λ _. exact_give _) lines_at λ lines _ k.
      at_then (exact_then (exact_field 1) λ _. exact_then (exact_field 1) λ _. exact_then (exact_field 1) λ _. exact_give _) sizes-at λ sizes _ m.
      at_give (record { short = λ named. short_then (source-short named source h.0) (short_then k m.0); source = h.1; sizes = m.1 })
    where
      both : AtPlace s at (string limit) (λ to t. (Short (option_bytes t) at to) × StandsIf s t)
      both = record { holds = λ e. ((short_string limit).holds e, (at-string {s = s} {at = at} limit).holds e) }

      lines_at : {at : ℕ} → AtPlace s at lines (λ to l. Short (lines_bytes l) at to)
      lines_at = at_then exact_number short-number λ _ _ h. at_then exact_number short-number λ _ _ k. at_give (short_then h k)

      sizes-at : {at : ℕ} → AtPlace s at sizes (λ to z. (Short (sizes_bytes z) at to) × (sizes_bytes z ≡ z.numparams ∷ z.is_vararg ∷ z.maxstacksize ∷ []))
      sizes-at {at} =
          at_then (exact_field 1) (byte_at at) λ a _ h.
          at_then (exact_field 1) (byte_at _) λ b _ k.
          at_then (exact_field 1) (byte_at _) λ c _ m.
          at_give (short_then h.0 (short_then k.0 m.0), (λ i. h.1 i ++ (k.1 i ++ m.1 i)))

  pub head_at_lem : (L : ResourceLimits) (before at : ℕ) → AtPlace s at (head L before) (λ to h. HeadAt s L before at to h)
  head_at_lem L before at =
      at_then (exact_front L.max_string_bytes) (front_at L.max_string_bytes at) λ front mid h.
      at_then (exact_lists L before) (read mid) λ lists _ k.
      at_then (exact_protos_count L.max_total_prototypes) (protos-at L.max_total_prototypes _) λ protos _ m.
      at_give (record {
        short = λ named. whole named front lists protos (h.short named) (short_then k.0 m);
        source = h.source;
        sizes = h.sizes;
        lists = k.1;
      })
    where
      read : (mid : ℕ) → AtPlace s mid (head_lists L before) (λ to h. (Short (lists_bytes h) mid to) × Somewhere s L before h)
      read mid = record { holds = λ {x} {to} {rest} e. (((lists_at L before mid).holds e).short, record { from = mid; to = to; rest = rest; reads = e }) }

      whole : (named : Bool) (front : Front) (lists : HeadLists) (protos : Count) {at mid to : ℕ} → Short (source_bytes named front.source ++ (lines_bytes front.lines ++ sizes_bytes front.sizes)) at mid
          → Short (lists_bytes lists ++ shortest protos.count) mid to → Short (head_bytes named (record { front = front; lists = lists; protos = protos })) at to
      whole named front lists protos h k = rw (append_assoc (source_bytes named front.source), append_assoc (lines_bytes front.lines)) at (short_then h k)
