-- The end of a function, in the code's terms: by what the calls showed and put.
-- Assumes nothing.
use Rattle.std.specs.Prelude.{Ok, Err}
use mathlib.Core.Path.{◌≡◌, sym, ◌∙◌, ap}
use Prim.Native.Nat.{ℕ}
use lib.ListN.{drop}
use Rattle.format.specs.declared.refusal.Refusal.{Refusal}
use Rattle.format.specs.Form.{Bytes}
use Rattle.format.specs.Read.{Read, ok}
use Rattle.slice.specs.declared.cursor.Cursor.{Cursor}
use Rattle.slice.specs.Inner.Results.{cursor_result}
use Rattle.read_field.proofs.Shows.{cursor_ok}
use Rattle.read_prototype.specs.declared.parts.Tail as declared-tail
use Rattle.read_walk.specs.declared.walk.Skimmed.{Skimmed}
use Rattle.read_prototype.specs.Parts.{Tail, tail}
use Rattle.read_prototype.specs.PartsShown.{tail_of, tail_result}
use Rattle.read_walk.proofs.HeadTail.{tail_err, tail-read}
use Rattle.copy_put.specs.Inner.Put.{Put}
use Rattle.copy_parts.specs.Inner.Parts.{tail_bytes}
use Rattle.copy_parts.specs.Inner.Ends.{PutsTail, end_shown}

-- ## The lists behind the nested functions
pub tail_stops : (o : Read Tail) (q : Refusal) → Err q ≡ tail_result o → Err q ≡ cursor_result o
tail_stops o q e = sym (ap cursor_result (tail_err o q e))

pub tail_copied : {at : ℕ} {l : Bytes} {len : ℕ} {l' : Bytes} (s : Bytes) (limit from : ℕ) (t : declared-tail.Tail) (c : Cursor) → Ok (t, c) ≡ tail_result (tail limit from (drop from s))
    → ((from to : ℕ) (v : Tail) (rest : Bytes) → tail limit from (drop from s) ≡ ok v to rest → t ≡ tail_of v → Put (tail_bytes v) at l len l')
    → (Ok c ≡ cursor_result (tail limit from (drop from s))) × PutsTail (tail limit from (drop from s)) at l len l'
tail_copied s limit from t c e p =
    let o = tail-read s limit from t c e in (
      sym (ap cursor_result o.is),
      record { put = λ v to rest f. let same : o.value ≡ v = (let both = sym o.is ∙ f in cc) in p from to v rest f (o.shows ∙ ap tail_of same) },
    )

-- ## The walk behind them
module _ (nested : Skimmed) where
  pub end_read : (o : Read Tail) (c : Cursor) → Ok c ≡ cursor_result o → Ok (record { next = c; number = nested.number; instructions = nested.instructions }) ≡ end_shown nested o
  end_read o c e = sym (ap (end_shown nested) (cursor_ok o c e).was.is)
