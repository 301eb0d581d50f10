-- The two parts of a function, before and behind those that nest in it, by what a call showed of them.
--     exact_head, exact_tail       what their readers accept
--     head_total                   the instructions of all functions so far stay within the limit
--     ReadOn                       a part that was read, of which something was shown: the slice goes on behind it
--     head-.., counts-..           of an answer of `read_head`, of `pass_head`: what was read
--     tail-.., tail-counts-..      of an answer of `read_tail`, of `pass_tail`
-- Assumes nothing.
use Rattle.std.specs.Prelude.{Ok, Err}
use mathlib.Core.Path.{◌≡◌}
use Prim.Native.Nat.{ℕ, ◌+◌, ◌≤◌}
use lib.ListN.{length, drop}
use Rattle.format.specs.declared.limits.ResourceLimits.{ResourceLimits}
use Rattle.format.specs.declared.refusal.Refusal.{Refusal}
use Rattle.format.specs.Form.{Bytes, Form, Then, Is}
use Rattle.format.specs.GrammarFields.{String}
use Rattle.format.specs.GrammarChunk.{Counted, Anchor, Local}
use Rattle.format.specs.Read.{Read, ok, refused, Reader}
use Rattle.format.proofs.Exact.{Exact, exact_then, exact_give}
use Rattle.format.proofs.ExactFields.{exact_string}
use Rattle.format.proofs.ExactChunk.{exact_counted, exact_anchor, exact_local}
use Rattle.format.proofs.Every.{Every, any, every_then, every_is, every_given, every_many}
use Rattle.slice.specs.declared.cursor.Cursor.{Cursor}
use Rattle.read_field.proofs.Shows.{Showed, onward, shown_as_err, shown_as_ok}
use Rattle.read_list.proofs.Within.{Code, LineInfo, ProtosCount, exact_line_info, exact_protos_count}
use Rattle.read_prototype.specs.declared.parts.Head as declared-head
use Rattle.read_prototype.specs.declared.parts.Tail as declared-tail
use Rattle.read_prototype.specs.declared.pass.HeadCounts.{HeadCounts}
use Rattle.read_prototype.specs.declared.pass.TailCounts.{TailCounts}
use Rattle.read_prototype.specs.Parts.{Head, head, Tail, tail}
use Rattle.read_prototype.specs.PartsShown.{head_of, tail_of, head_result, tail_result}
use Rattle.read_prototype.specs.Inner.Counts.{head_counts, tail_counts, head_counts_result, tail_counts_result}
use Rattle.read_prototype.proofs.FrontAnswers.{FrontForm, exact_front}
use Rattle.read_prototype.proofs.HeadAnswers.{ListsForm, exact_lists}
use Rattle.read_prototype.proofs.Counts.{head-counted, tail-counted}

-- ## What is accepted
abbrev pub HeadForm : ResourceLimits → ℕ → Form Head
HeadForm L before = Then (FrontForm L.max_string_bytes) λ front. Then (ListsForm L before) λ lists. Then (ProtosCount L.max_total_prototypes) λ protos. Is (record { front = front; lists = lists; protos = protos })

pub exact_head : (L : ResourceLimits) (before : ℕ) → Exact (head L before) (HeadForm L before)
exact_head L before = exact_then (exact_front L.max_string_bytes) λ _. exact_then (exact_lists L before) λ _. exact_then (exact_protos_count L.max_total_prototypes) λ _. exact_give _

abbrev pub TailForm : ℕ → Form Tail
TailForm limit = Then LineInfo λ a. Then (Counted Anchor) λ b. Then (Counted (Local limit)) λ c. Then (Counted (String limit)) λ d. Is (record { line_info_lem = a; abs_line_info = b; loc_vars = c; upvalue_names_lem = d })

pub exact_tail : (limit : ℕ) → Exact (tail limit) (TailForm limit)
exact_tail limit = exact_then exact_line_info λ _. exact_then (exact_counted exact_anchor) λ _. exact_then (exact_counted (exact_local limit)) λ _. exact_then (exact_counted (exact_string limit)) λ _. exact_give _

every_code : (per-proto before total : ℕ) → Every (Code per-proto before total) (λ l. before + length l.items ≤ total)
every_code per-proto before total = every_then any λ n _. every_then any λ _ _. every_then every_given λ _ fits. every_then any λ place _. every_then (every_many n any) λ words q. every_is (rw q.0 fits)

every_head : (L : ResourceLimits) (before : ℕ) → Every (HeadForm L before) (λ h. before + length h.lists.instructions.items ≤ L.max_total_instructions)
every_head L before =
    every_then any λ front _.
    every_then (every_then (every_code L.max_instructions_per_proto before L.max_total_instructions) λ code fits. every_then any λ _ _. every_then any λ _ _. every_is {P = λ l. before + length l.instructions.items ≤ L.max_total_instructions} fits) λ lists fits.
    every_then any λ protos _.
    every_is fits

pub head_total : (L : ResourceLimits) (before at : ℕ) (s : Bytes) {h : Head} {to : ℕ} {rest : Bytes} → head L before at s ≡ ok h to rest → before + length h.lists.instructions.items ≤ L.max_total_instructions
head_total L before at s {h} e =
    let split = (exact_head L before).sound {at = at} {s = s} e in
    (every_head L before).holds at split.bytes h split.spelt

-- ## From what was shown to what was read
pub record ReadOn {A B : Type 0} (of : A → B) (r : Reader A) (s : Bytes) (at : ℕ) (shown : B) (to : ℕ) : Type 0 where
  pub value : A
  pub is : r at (drop at s) ≡ ok value to (drop to s)
  pub shows : shown ≡ of value

goes_on_lem : {A B : Type 0} {of : A → B} {r : Reader A} {F : Form A} → Exact r F → (s : Bytes) (at : ℕ) {shown : B} {to : ℕ} → Showed of (r at (drop at s)) shown to → ReadOn of r s at shown to
goes_on_lem exact s at o = record { value = o.value; is = onward exact s at o.was; shows = o.shows }

-- the head
pub head_err : (o : Read Head) (q : Refusal) → Err q ≡ head_result o → o ≡ refused q
head_err = shown_as_err head_of

head_ok : (o : Read Head) (h : declared-head.Head) (c : Cursor) → Ok (h, c) ≡ head_result o → Showed head_of o h c.at
head_ok = shown_as_ok head_of

module _ (s : Bytes) (L : ResourceLimits) (before at : ℕ) where
  pub head_read : (h : declared-head.Head) (c : Cursor) → Ok (h, c) ≡ head_result (head L before at (drop at s)) → ReadOn head_of (head L before) s at h c.at
  head_read h c e = goes_on_lem (exact_head L before) s at (head_ok (head L before at (drop at s)) h c e)

  pub counts-read : (n : HeadCounts) (c : Cursor) → Ok (n, c) ≡ head_counts_result (head L before at (drop at s)) → ReadOn head_counts (head L before) s at n c.at
  counts-read n c e = goes_on_lem (exact_head L before) s at (head-counted (head L before at (drop at s)) n c e)

  pub in_total : (h : declared-head.Head) (c : Cursor) → Ok (h, c) ≡ head_result (head L before at (drop at s)) → before + h.lists.instructions.count ≤ L.max_total_instructions
  in_total h c e = let o = head_read h c e in rw o.shows (head_total L before at (drop at s) o.is)

  pub counts_total : (n : HeadCounts) (c : Cursor) → Ok (n, c) ≡ head_counts_result (head L before at (drop at s)) → before + n.instructions ≤ L.max_total_instructions
  counts_total n c e = let o = counts-read n c e in rw o.shows (head_total L before at (drop at s) o.is)

-- the tail
pub tail_err : (o : Read Tail) (q : Refusal) → Err q ≡ tail_result o → o ≡ refused q
tail_err = shown_as_err tail_of

tail-ok : (o : Read Tail) (t : declared-tail.Tail) (c : Cursor) → Ok (t, c) ≡ tail_result o → Showed tail_of o t c.at
tail-ok = shown_as_ok tail_of

module _ (s : Bytes) (limit at : ℕ) where
  pub tail-read : (t : declared-tail.Tail) (c : Cursor) → Ok (t, c) ≡ tail_result (tail limit at (drop at s)) → ReadOn tail_of (tail limit) s at t c.at
  tail-read t c e = goes_on_lem (exact_tail limit) s at (tail-ok (tail limit at (drop at s)) t c e)

  pub tail-counts-read : (n : TailCounts) (c : Cursor) → Ok (n, c) ≡ tail_counts_result (tail limit at (drop at s)) → ReadOn tail_counts (tail limit) s at n c.at
  tail-counts-read n c e = goes_on_lem (exact_tail limit) s at (tail-counted (tail limit at (drop at s)) n c e)
