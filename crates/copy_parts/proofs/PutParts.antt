-- The two parts of a function, put: by what the calls put of each list.
-- Assumes nothing.
use Rattle.std.specs.Prelude as prelude
use Rattle.read_field.specs.declared.string.StringAt.{StringAt}
use mathlib.Core.Path.{◌≡◌, sym, subst, ◌∙◌, ap}
use mathlib.Core.Bool.{Bool, true, false, cond}
use mathlib.Core.List.{[], ◌∷◌, ◌++◌}
use mathlib.Core.Option.{Option}
use Prim.Native.Nat.{ℕ, ◌-◌, ◌*◌, ◌≤◌}
use native.Mathlib.Nat.{mul-one}
use lib.ListN.{length, take, drop}
use Rattle.format.specs.declared.limits.ResourceLimits.{ResourceLimits}
use Rattle.format.specs.Form.{Bytes, Below, Form}
use Rattle.format.specs.GrammarFields.{LuaString}
use Rattle.format.specs.GrammarChunk.{Listed}
use Rattle.format.specs.Read.{ok, Reader, run, many}
use Rattle.format.specs.ReadFields.{field, string}
use Rattle.format.specs.ReadChunk.{constant, anchor, local}
use Rattle.format.specs.Shortest.{shortest}
use Rattle.format.specs.Copy.{option_bytes, constant_bytes, anchor_bytes, local_bytes, list_bytes}
use Rattle.format.proofs.Exact.{Exact}
use Rattle.format.proofs.ExactFields.{exact_field}
use Rattle.format.proofs.ExactChunk.{exact_upvalue}
use Rattle.format.proofs.Located.{Found, AtPlace, StandsIf}
use Rattle.read_prototype.specs.declared.parts.HeadLists as declared-lists
use Rattle.read_prototype.specs.declared.parts.Head as declared-head
use Rattle.read_prototype.specs.declared.parts.Tail as declared-tail
use Rattle.read_prototype.specs.declared.front.Sizes.{Sizes}
use Rattle.read_prototype.specs.Parts.{HeadLists, head_lists, Head, head, Tail, tail}
use Rattle.read_prototype.specs.PartsShown.{lists_of, head_of, tail_of}
use Rattle.read_field.specs.Shown.{option_string}
use Rattle.copy_put.specs.Inner.Put.{Put, PutsAll}
use Rattle.copy_put.specs.Inner.Text.{There, spelt}
use Rattle.copy_put.proofs.Writes.{put_then}
use Rattle.copy_entry.proofs.Items.{string-put}
use Rattle.copy_entry.proofs.Entries.{Raw, at-run, raw_field, raw_upvalue, raw_many, there-is}
use Rattle.copy_parts.specs.Inner.Parts.{source_bytes, lines_bytes, sizes_bytes, lists_bytes, head_bytes, tail_bytes}
use Rattle.copy_parts.proofs.PartsAt.{tail-at, lists_at, head_at_lem}

pub put_as : {a b : Bytes} {at w : ℕ} {k k' : Bytes} → a ≡ b → Put a at k w k' → Put b at k w k'
put_as e p = rw (← e) p

-- ## Lists
module _ {A : Type 0} (s : Bytes) (r : Reader A) {enc : A → Bytes} (l : Listed A) (count place : ℕ) (long : count ≡ length l.items) (there : place ≡ l.place) where
  pub run-put : {F : Form A} (width : ℕ) → Exact r F → Below 256 s → ((at : ℕ) → AtPlace s at r (λ to x. Raw s enc width at to x)) → Found s (many (length l.items) r) l.place l.items
      → {at : ℕ} {k : Bytes} {b : ℕ} {k' : Bytes} → (count * width ≤ length s - place → Put (shortest count ++ take (count * width) (drop place s)) at k b k') → Put (list_bytes enc l.items) at k b k'
  unfolding list_bytes
  run-put width exact bytes one found p =
      let raw = (raw_many s bytes exact one (length l.items) l.place).holds found.is in
      rw (raw.same, ← long, ← there) (p (rw (long, there) raw.inside))

  pub all-put : Found s (many (length l.items) r) l.place l.items → {at : ℕ} {k : Bytes} {b : ℕ} {k' : Bytes} → PutsAll enc (many count r place (drop place s)) at k b k' → Put (list_bytes enc l.items) at k b k'
  all-put found p = p.put l.items found.to found.rest ((λ i. many (long i) r (there i) (drop (there i) s)) ∙ found.is)

pub deltas_put : (s : Bytes) (l : Listed ℕ) (count place : ℕ) → count ≡ length l.items → place ≡ l.place → Found s (run (length l.items)) l.place l.items
    → {at : ℕ} {k : Bytes} {b : ℕ} {k' : Bytes} → (count * 1 ≤ length s - place → Put (shortest count ++ take (count * 1) (drop place s)) at k b k') → Put (shortest (length l.items) ++ l.items) at k b k'
deltas_put s l count place long there found {at} {k} {b} {k'} p =
    let raw = (at-run {s = s} (length l.items)).holds found.is in
    let one : count * 1 ≡ length l.items = mul-one count ∙ long in
    let bytes : take (count * 1) (drop place s) ≡ l.items = (λ i. take (one i) (drop (there i) s)) ∙ sym raw.same in
    subst (λ x. Put (shortest (length l.items) ++ x) at k b k') bytes (rw (← long) (p (rw (one, there) raw.inside)))

-- ## The parts
module _ (s : Bytes) where
  pub lists-put : (L : ResourceLimits) (lists : declared-lists.HeadLists) {at w₁ w₂ b : ℕ} {k k₁ k₂ k' : Bytes}
      → (lists.instructions.count * 4 ≤ length s - lists.instructions.place → Put (shortest lists.instructions.count ++ take (lists.instructions.count * 4) (drop lists.instructions.place s)) at k w₁ k₁)
      → (Below 256 s → PutsAll constant_bytes (many lists.constants.count (constant L.max_string_bytes) lists.constants.place (drop lists.constants.place s)) w₁ k₁ w₂ k₂)
      → (lists.upvalues.count * 3 ≤ length s - lists.upvalues.place → Put (shortest lists.upvalues.count ++ take (lists.upvalues.count * 3) (drop lists.upvalues.place s)) w₂ k₂ b k')
      → (before from to : ℕ) (h : HeadLists) (rest : Bytes) → Below 256 s → head_lists L before from (drop from s) ≡ ok h to rest → lists ≡ lists_of h → Put (lists_bytes h) at k b k'
  lists-put L lists p q r before from to h rest bytes e shows =
      let z = (lists_at s bytes L before from).holds e in
      put_then
      (run-put s (field 4) h.instructions lists.instructions.count lists.instructions.place (ap (λ x. x.instructions.count) shows) (ap (λ x. x.instructions.place) shows) 4 (exact_field 4) bytes (raw_field s bytes 4) z.instructions p)
      (put_then
      (all-put s (constant L.max_string_bytes) h.constants lists.constants.count lists.constants.place (ap (λ x. x.constants.count) shows) (ap (λ x. x.constants.place) shows) z.constants (q bytes))
      (run-put s _ h.upvalues lists.upvalues.count lists.upvalues.place (ap (λ x. x.upvalues.count) shows) (ap (λ x. x.upvalues.place) shows) 3 exact_upvalue bytes (raw_upvalue s bytes) z.upvalues r))

  pub tail-put : (limit : ℕ) (tail' : declared-tail.Tail) {at w₁ w₂ w₃ b : ℕ} {k k₁ k₂ k₃ k' : Bytes}
      → (tail'.line_info.count * 1 ≤ length s - tail'.line_info.place → Put (shortest tail'.line_info.count ++ take (tail'.line_info.count * 1) (drop tail'.line_info.place s)) at k w₁ k₁)
      → PutsAll anchor_bytes (many tail'.abs_line_info.count anchor tail'.abs_line_info.place (drop tail'.abs_line_info.place s)) w₁ k₁ w₂ k₂
      → PutsAll local_bytes (many tail'.loc_vars.count (local limit) tail'.loc_vars.place (drop tail'.loc_vars.place s)) w₂ k₂ w₃ k₃
      → PutsAll option_bytes (many tail'.upvalue_names.count (string limit) tail'.upvalue_names.place (drop tail'.upvalue_names.place s)) w₃ k₃ b k'
      → (from to : ℕ) (t : Tail) (rest : Bytes) → tail limit from (drop from s) ≡ ok t to rest → tail' ≡ tail_of t → Put (tail_bytes t) at k b k'
  tail-put limit tail' p q r u from to t rest e shows =
      let z = (tail-at limit from).holds e in
      put_then
      (deltas_put s t.line_info_lem tail'.line_info.count tail'.line_info.place (ap (λ x. x.line_info.count) shows) (ap (λ x. x.line_info.place) shows) z.line_info_lem p)
      (put_then
      (all-put s anchor t.abs_line_info tail'.abs_line_info.count tail'.abs_line_info.place (ap (λ x. x.abs_line_info.count) shows) (ap (λ x. x.abs_line_info.place) shows) z.abs_line_info q)
      (put_then
      (all-put s (local limit) t.loc_vars tail'.loc_vars.count tail'.loc_vars.place (ap (λ x. x.loc_vars.count) shows) (ap (λ x. x.loc_vars.place) shows) z.loc_vars r)
      (all-put s (string limit) t.upvalue_names_lem tail'.upvalue_names.count tail'.upvalue_names.place (ap (λ x. x.upvalue_names.count) shows) (ap (λ x. x.upvalue_names.place) shows) z.upvalue_names_lem u)))

  source-put : (named : Bool) (source : prelude.Option StringAt) (t : Option LuaString) {at b : ℕ} {k k' : Bytes} → StandsIf s t → source ≡ option_string t
      → (There s source → Put (cond named (spelt s source) (shortest 0)) at k b k') → Put (source_bytes named t) at k b k'
  source-put true source t stands e p = string-put s t source stands e p
  source-put false source t stands e p = p (rw e (there-is s t stands))

  sizes-put : (z y : Sizes) {at b : ℕ} {k k' : Bytes} → z ≡ y → sizes_bytes y ≡ y.numparams ∷ y.is_vararg ∷ y.maxstacksize ∷ [] → Put (z.numparams ∷ z.is_vararg ∷ z.maxstacksize ∷ []) at k b k' → Put (sizes_bytes y) at k b k'
  sizes-put z y {at} {b} {k} {k'} e f p = subst (λ x. Put x at k b k') ((λ i. (e i).numparams ∷ (e i).is_vararg ∷ (e i).maxstacksize ∷ []) ∙ sym f) p

  pub head-put : (L : ResourceLimits) (named : Bool) (head' : declared-head.Head) {w₀ w₁ w₂ w₃ w₄ b : ℕ} {k k₁ k₂ k₃ k₄ k' : Bytes}
      → (There s head'.front.source → Put (cond named (spelt s head'.front.source) (shortest 0)) w₀ k w₁ k₁)
      → Put (lines_bytes head'.front.lines) w₁ k₁ w₂ k₂
      → Put (head'.front.sizes.numparams ∷ head'.front.sizes.is_vararg ∷ head'.front.sizes.maxstacksize ∷ []) w₂ k₂ w₃ k₃
      → ((before from to : ℕ) (h : HeadLists) (rest : Bytes) → Below 256 s → head_lists L before from (drop from s) ≡ ok h to rest → head'.lists ≡ lists_of h → Put (lists_bytes h) w₃ k₃ w₄ k₄)
      → Put (shortest head'.protos.count) w₄ k₄ b k'
      → (before from to : ℕ) (h : Head) (rest : Bytes) → Below 256 s → head L before from (drop from s) ≡ ok h to rest → head' ≡ head_of h → Put (head_bytes named h) w₀ k b k'
  head-put L named head' p q r u v before from to h rest bytes e shows =
      let z = (head_at_lem s bytes L before from).holds e in
      put_then (source-put named head'.front.source h.front.source z.source (ap (λ x. x.front.source) shows) p)
      (put_then (put_as (ap (λ x. lines_bytes x.front.lines) shows) q)
      (put_then (sizes-put head'.front.sizes h.front.sizes (ap (λ x. x.front.sizes) shows) z.sizes r)
      (put_then (u before z.lists.from z.lists.to h.lists z.lists.rest bytes z.lists.reads (ap (λ x. x.lists) shows))
      (put_as (ap (λ x. shortest x.protos.count) shows) v))))
