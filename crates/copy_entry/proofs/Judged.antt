-- What an entry shows that is read and put in one pass.
--     .._passes     an entry that is read
-- Assumes nothing.
use Rattle.std.specs.Prelude.{Option, Ok}
use Rattle.read_field.specs.declared.string.StringAt.{StringAt}
use mathlib.Core.Path.{◌≡◌, sym, ap}
use Prim.Native.Nat.{ℕ}
use lib.ListN.{drop}
use Rattle.format.specs.declared.entry.AbsLineInfo.{AbsLineInfo}
use Rattle.format.specs.Form.{Bytes}
use Rattle.format.specs.Read.{Read}
use Rattle.format.specs.ReadFields.{string}
use Rattle.format.specs.ReadChunk.{constant, anchor, local}
use Rattle.slice.specs.declared.cursor.Cursor.{Cursor}
use Rattle.slice.specs.Inner.Results.{cursor_result}
use Rattle.read_field.specs.Shown.{string_result}
use Rattle.read_field.proofs.Shows.{Was, string-ok}
use Rattle.read_entry.specs.declared.constant.ConstantValue as declared
use Rattle.read_entry.specs.declared.debug.LocalAt.{LocalAt}
use Rattle.read_entry.specs.Readers.{raw_local}
use Rattle.read_entry.specs.Shown.{constant_result, anchor_result, local_result}
use Rattle.read_entry.proofs.Constants.{constant-ok}
use Rattle.read_entry.proofs.DebugInfo.{local-passed, anchor-ok}

-- ## Entries
is-shown : {A : Type 0} {o : Read A} {x : A} {c : Cursor} → Was o x c.at → Ok c ≡ cursor_result o
is-shown w = sym (ap cursor_result w.is)

module _ (s : Bytes) (limit at : ℕ) where
  pub name_passes : {shown : Option StringAt} {c : Cursor} → Ok (shown, c) ≡ string_result (string limit at (drop at s)) → Ok c ≡ cursor_result (string limit at (drop at s))
  name_passes {shown} {c} e = is-shown (string-ok (string limit at (drop at s)) shown c e).was

  pub local_passes : {v : LocalAt} {c : Cursor} → Ok (v, c) ≡ local_result (raw_local limit at (drop at s)) → Ok c ≡ cursor_result (local limit at (drop at s))
  local_passes {v} {c} e = is-shown (local-passed limit at (drop at s) v c e).was

  pub constant_passes : {v : declared.ConstantValue} {c : Cursor} → Ok (v, c) ≡ constant_result (constant limit at (drop at s)) → Ok c ≡ cursor_result (constant limit at (drop at s))
  constant_passes {v} {c} e = is-shown (constant-ok (constant limit at (drop at s)) v c e).was

module _ (s : Bytes) (at : ℕ) where
  pub anchor_passes : {a : AbsLineInfo} {c : Cursor} → Ok (a, c) ≡ anchor_result (anchor at (drop at s)) → Ok c ≡ cursor_result (anchor at (drop at s))
  anchor_passes {a} {c} e = is-shown (anchor-ok (anchor at (drop at s)) a c e)
