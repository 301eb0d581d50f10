-- The answers of `pass_head` and `pass_tail`: from those of `read_head` and `read_tail`, and back to what the readers gave.
--     head_passed_lem, head-stopped     what `read_head` showed is shown of its counts; the same for the tail
--     head-counted, head-not        of an answer `Ok` the head that was read, of `Err` the reader's refusal; the same for the tail
-- Assumes nothing.
use Rattle.std.specs.Prelude.{Ok, Err}
use mathlib.Core.Path.{◌≡◌, refl, sym, ◌∙◌, ap}
use Prim.Native.Nat.{ℕ}
use native.Mathlib.Omega.{arith}
use Rattle.format.specs.declared.refusal.Refusal.{Refusal}
use Rattle.format.specs.Read.{Read, ok, refused}
use Rattle.slice.specs.declared.cursor.Cursor.{Cursor}
use Rattle.slice.specs.Shown.{cursor_at}
use Rattle.read_field.proofs.Shows.{Showed, shown_as_err, shown_as_ok}
use Rattle.read_prototype.specs.declared.parts.Head as declared-head
use Rattle.read_prototype.specs.declared.parts.Tail as declared-tail
use Rattle.read_prototype.specs.declared.pass.HeadCounts.{HeadCounts}
use Rattle.read_prototype.specs.declared.pass.TailCounts.{TailCounts}
use Rattle.read_prototype.specs.Parts.{Head, Tail}
use Rattle.read_prototype.specs.PartsShown.{head_of, head_result, tail_of, tail_result}
use Rattle.read_prototype.specs.Inner.Counts.{head_kept, head_counts, head_counts_result, tail_kept, tail_counts, tail_counts_result}

-- ## From what the readers of the parts showed
pub head_passed_lem : (o : Read Head) (h : declared-head.Head) (c : Cursor) → Ok (h, c) ≡ head_result o → Ok ((head_kept h), c) ≡ head_counts_result o
head_passed_lem o h c e =
    let w = shown_as_ok head_of o h c e in
    ap (λ k. Ok (head_kept k, c)) w.shows ∙ sym (ap head_counts_result w.was.is)

pub head-stopped : (o : Read Head) (q : Refusal) → Err q ≡ head_result o → Err q ≡ head_counts_result o
head-stopped o q e = sym (ap head_counts_result (shown_as_err head_of o q e))

pub tail-passed : (o : Read Tail) (t : declared-tail.Tail) (c : Cursor) → Ok (t, c) ≡ tail_result o → Ok ((tail_kept t), c) ≡ tail_counts_result o
tail-passed o t c e =
    let w = shown_as_ok tail_of o t c e in
    ap (λ k. Ok (tail_kept k, c)) w.shows ∙ sym (ap tail_counts_result w.was.is)

pub tail-stopped : (o : Read Tail) (q : Refusal) → Err q ≡ tail_result o → Err q ≡ tail_counts_result o
tail-stopped o q e = sym (ap tail_counts_result (shown_as_err tail_of o q e))

-- ## Back to what the readers gave
pub head-counted : (o : Read Head) (k : HeadCounts) (c : Cursor) → Ok (k, c) ≡ head_counts_result o → Showed head_counts o k c.at
head-counted = shown_as_ok head_counts

pub head-not : (o : Read Head) (q : Refusal) → Err q ≡ head_counts_result o → o ≡ refused q
head-not = shown_as_err head_counts

pub tail-counted : (o : Read Tail) (k : TailCounts) (c : Cursor) → Ok (k, c) ≡ tail_counts_result o → Showed tail_counts o k c.at
tail-counted = shown_as_ok tail_counts

pub tail-not : (o : Read Tail) (q : Refusal) → Err q ≡ tail_counts_result o → o ≡ refused q
tail-not = shown_as_err tail_counts
