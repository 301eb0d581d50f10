-- What is put of a function before the functions that nest in it, read in the same pass.
--     lists_counted, counts_of, head_counted    what is kept of what was read: how many, and the place behind
--     lists_kept, head_kept    the same, of what the code answers
--     PutsLists, PutsHead      of the lists before them; of all before them
use Rattle.std.specs.Prelude.{◌≡◌, Bool, ℕ, drop, Result, Ok, Err}
use Rattle.format.specs.declared.refusal.Refusal.{Refusal}
use Rattle.format.specs.declared.limits.ResourceLimits.{ResourceLimits}
use Rattle.format.specs.Form.{Bytes, Below}
use Rattle.format.specs.Read.{Read, ok}
use Rattle.slice.specs.declared.cursor.Cursor.{Cursor}
use Rattle.read_prototype.specs.declared.parts.HeadLists as declared-lists
use Rattle.read_prototype.specs.declared.parts.Head as declared-head
use Rattle.copy_parts.specs.declared.parts.Counts.{Counts}
use Rattle.copy_parts.specs.declared.parts.HeadCopied.{HeadCopied}
use Rattle.copy_parts.specs.declared.parts.ListsCopied.{ListsCopied}
use Rattle.read_prototype.specs.Parts.{HeadLists, head_lists, Head}
use Rattle.read_prototype.specs.PartsShown.{lists_of}
use Rattle.copy_put.specs.Inner.Put.{Put}
use Rattle.copy_parts.specs.Inner.Parts.{lists_bytes, head_bytes}

abbrev pub lists_counted : Result (declared-lists.HeadLists × Cursor) Refusal → Result (ℕ × ℕ × Cursor) Refusal
lists_counted (Ok (x, c)) = Ok (x.instructions.count, x.upvalues.count, c)
lists_counted (Err q) = Err q

abbrev pub lists_kept : Result ListsCopied Refusal → Result (ℕ × ℕ × Cursor) Refusal
lists_kept (Ok k) = Ok (k.instructions, k.upvalues, k.next)
lists_kept (Err q) = Err q

abbrev pub counts_of : declared-head.Head → Counts
counts_of h = record { instructions = h.lists.instructions.count; upvalues = h.lists.upvalues.count; protos = h.protos.count }

abbrev pub head_counted : Result (declared-head.Head × Cursor) Refusal → Result (Counts × Cursor) Refusal
head_counted (Ok (h, c)) = Ok ((counts_of h), c)
head_counted (Err q) = Err q

abbrev pub head_kept : Result HeadCopied Refusal → Result (Counts × Cursor) Refusal
head_kept (Ok h) = Ok (h.counts, h.next)
head_kept (Err q) = Err q

-- where o shows the lists before the nested functions, their bytes, wherever they were read
pub record PutsLists (L : ResourceLimits) (s : Bytes) (o : Result (declared-lists.HeadLists × Cursor) Refusal) (at : ℕ) (l : Bytes) (behind : ℕ) (l' : Bytes) : Type 0 where
  pub put : (lists : declared-lists.HeadLists) (c : Cursor) → o ≡ Ok (lists, c)
      → (before from to : ℕ) (h : HeadLists) (rest : Bytes) → Below 256 s → head_lists L before from (drop from s) ≡ ok h to rest → lists ≡ lists_of h → Put (lists_bytes h) at l behind l'

-- where a function was read up to the functions that nest in it, its bytes, at the start
pub record PutsHead (named : Bool) (o : Read Head) (l : Bytes) (len : ℕ) (l' : Bytes) : Type 0 where
  pub put : (h : Head) (to : ℕ) (rest : Bytes) → o ≡ ok h to rest → Put (head_bytes named h) 0 l len l'
