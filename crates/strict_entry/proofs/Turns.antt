-- Passing over n items, one turn at a time: read_entry's `Turns.antt`, by what the code showed of an item's end.
--     begins, ends, stops, goes_on_lem     before the first, behind the last, an item that is refused, one that is read
-- Assumes nothing.
use Rattle.std.specs.Prelude.{Ok, Err}
use mathlib.Core.Path.{◌≡◌}
use Prim.Native.Nat.{ℕ, suc, ◌≤◌, ◌<◌}
use lib.ListN.{drop}
use Rattle.format.specs.declared.refusal.Refusal.{Refusal}
use Rattle.format.specs.Form.{Bytes, Form}
use Rattle.format.specs.Read.{Reader, many}
use Rattle.format.proofs.Exact.{Exact}
use Rattle.slice.specs.declared.cursor.Cursor.{Cursor}
use Rattle.slice.specs.Inner.Results.{cursor_result}
use Rattle.read_field.proofs.Shows.{cursor_err, cursor_ok}
use Rattle.read_entry.proofs.Turns.{Rest}
use Rattle.read_entry.proofs.Turns as turn

-- the invariant of a loop over items
pub record Left {A : Type 0} (r : Reader A) (s : Bytes) (n from left at : ℕ) : Type 0 where
  pub rest : Rest r s n from left at

pub begins : {A : Type 0} {r : Reader A} {s : Bytes} {n from left : ℕ} → left ≡ n → Left r s n from left from
begins {r = r} {s} {n} {from} all = record { rest = turn.begins r s n from all }

module _ {A : Type 0} {r : Reader A} {s : Bytes} {n from left at : ℕ} (inv : Left r s n from left at) where
  pub ends : left ≤ 0 → Ok (record { at = at }) ≡ cursor_result (many n r from (drop from s))
  ends h = turn.ends r s n from left at inv.rest h

  pub stops : 0 < left → {q : Refusal} → Err q ≡ cursor_result (r at (drop at s)) → Err q ≡ cursor_result (many n r from (drop from s))
  stops more {q} e = turn.stops r s n from left at inv.rest more q (cursor_err (r at (drop at s)) q e)

  pub goes_on_lem : {fewer : ℕ} → left ≡ suc fewer → {F : Form A} → Exact r F → {k : Cursor} → Ok k ≡ cursor_result (r at (drop at s)) → Left r s n from fewer k.at
  goes_on_lem one exact {k} e = record { rest = turn.goes_on_lem r s n from left at inv.rest one exact (cursor_ok (r at (drop at s)) k e).was }
