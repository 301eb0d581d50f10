-- What the code shows of what was read behind a constant's tag is what the reader shows of the constant.
-- Assumes nothing.
use Rattle.std.specs.Prelude.{Result, Ok, Err}
use mathlib.Core.Path.{◌≡◌, refl}
use mathlib.Core.List.{[]}
use mathlib.Core.Option.{Option, none, some, get_or}
use Prim.Native.Nat.{ℕ}
use lib.ListN.{drop}
use Rattle.format.specs.declared.refusal.Refusal.{Refusal}
use Rattle.format.specs.Form.{Bytes}
use Rattle.format.specs.GrammarFields.{LuaString}
use Rattle.format.specs.Reading.{ConstantValue, integer, float, short_string, long_string}
use Rattle.format.specs.Read.{Read, ok, refused, Reader, next, ◌>>=◌, give, here}
use Rattle.format.specs.ReadFields.{field}
use Rattle.format.specs.ReadChunk.{tagged, constant}
use Rattle.format.proofs.ExactFields.{exact_field}
use Rattle.slice.specs.declared.cursor.Cursor.{Cursor}
use Rattle.read_field.specs.Shown.{shown, string_result}
use Rattle.read_field.proofs.Shows.{Showed, onward, shown_err, shown_ok, shown_as_err, shown_as_ok}
use Rattle.read_entry.specs.declared.constant.ConstantValue as declared
use Rattle.read_entry.specs.Shown.{constant_value, constant_result}
use Rattle.read_entry.specs.Inner.Constants.{integer_of, float_of, short_string_of, long_string_of}

-- ## Behind a tag
pub integer-shown : (o : Read ℕ) → integer_of (shown o) ≡ constant_result (next o (λ n. give (integer n)))
integer-shown (ok n to rest) = refl
integer-shown (refused q) = refl

pub float-shown : (o : Read ℕ) → float_of (shown o) ≡ constant_result (next o (λ n. give (float n)))
float-shown (ok n to rest) = refl
float-shown (refused q) = refl

-- an absent string is empty, at the place behind its size
abbrev or_nothing : Option LuaString → Reader LuaString
or_nothing t = here >>= λ place. give (get_or t (record { place = place; bytes = [] }))

pub short-shown : (o : Read (Option LuaString)) → short_string_of (string_result o) ≡ constant_result (next (next o or_nothing) (λ t. give (short_string t)))
short-shown (ok none to rest) = refl
short-shown (ok (some t) to rest) = refl
short-shown (refused q) = refl

pub long-shown : (o : Read (Option LuaString)) → long_string_of (string_result o) ≡ constant_result (next (next o or_nothing) (λ t. give (long_string t)))
long-shown (ok none to rest) = refl
long-shown (ok (some t) to rest) = refl
long-shown (refused q) = refl

-- ## The tag
module _ (s : Bytes) (limit at : ℕ) where
  pub tag_refused : (q : Refusal) → Err q ≡ shown (field 1 at (drop at s)) → Err q ≡ constant_result (constant limit at (drop at s))
  tag_refused q e = rw (shown_err (field 1 at (drop at s)) q e)

  pub tag_read : (v : ℕ) (c : Cursor) → Ok (v, c) ≡ shown (field 1 at (drop at s)) → {r : Result (declared.ConstantValue × Cursor) Refusal} → r ≡ constant_result (tagged limit at v c.at (drop c.at s))
      → r ≡ constant_result (constant limit at (drop at s))
  tag_read v c e f = rw (onward (exact_field 1) s at (shown_ok (field 1 at (drop at s)) v c e)) f

-- ## From what was shown back to what was read
pub constant_err : (o : Read ConstantValue) (q : Refusal) → Err q ≡ constant_result o → o ≡ refused q
constant_err = shown_as_err constant_value

pub constant-ok : (o : Read ConstantValue) (k : declared.ConstantValue) (c : Cursor) → Ok (k, c) ≡ constant_result o → Showed constant_value o k c.at
constant-ok = shown_as_ok constant_value
