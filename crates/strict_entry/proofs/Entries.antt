-- The entries of a function's lists, passed over: what the code shows of each part is what the reader shows of the entry.
--     string-..            a string that may be absent: its end
--     present-..           one that must be there
--     eight                eight bytes, and a value made of the field that they are
--     tag-..               a constant's tag
--     two, named           what an anchor and a local variable end as: two ints, a string and two ints
-- Assumes nothing.
use Rattle.std.specs.Prelude as prelude
use Rattle.std.specs.Prelude.{Some, None, Result, Ok, Err}
use mathlib.Core.Path.{◌≡◌, refl, sym, ◌∙◌, ap}
use mathlib.Core.List.{[], ◌∷◌}
use mathlib.Core.Option.{Option, none, some, get_or}
use Prim.Native.Nat.{ℕ}
use native.Mathlib.Omega.{arith}
use lib.ListN.{drop}
use Rattle.format.specs.declared.refusal.Refusal.{Refusal}
use Rattle.format.specs.declared.refusal.Refusal.TheVariants.{NullString}
use Rattle.format.specs.Form.{Bytes}
use Rattle.format.specs.GrammarFields.{LuaString, little}
use Rattle.format.specs.declared.entry.AbsLineInfo.{AbsLineInfo}
use Rattle.format.specs.Reading.{LocalVar}
use Rattle.format.specs.Read.{Read, ok, refused, Reader, next, ◌>>◌, ◌>>=◌, give, run}
use Rattle.format.specs.ReadFields.{field, string}
use Rattle.format.proofs.ExactFields.{exact_field}
use Rattle.format_strict.specs.ReadStrict.{int, there, strict_tagged, strict_constant, strict_anchor, strict_local}
use Rattle.slice.specs.declared.cursor.Cursor.{Cursor}
use Rattle.slice.specs.Shown.{cursor_at}
use Rattle.slice.specs.Inner.Results.{cursor_result}
use Rattle.read_field.specs.declared.string.StringAt.{StringAt}
use Rattle.read_field.specs.Shown.{shown, option_string, string_result}
use Rattle.read_field.proofs.Shows.{onward, shown_ok}
use Rattle.strict_entry.proofs.Chains.{value, alike}

-- ## Ends of what was read
pub int-end : (o : Read ℕ) (v : ℕ) (c : Cursor) → Ok (v, c) ≡ shown o → Ok c ≡ cursor_result o
int-end (ok w to rest) v c e = let both : ◌≡◌ {A = ℕ × Cursor} (v, c) (w, cursor_at to) = cc in ap (λ p. Ok p.1) both
int-end (refused q) v c e = absurd (let z : ◌≡◌ {A = ℕ} 0 1 = cc in omega arith)

pub string-end : (o : Read (Option LuaString)) (t : prelude.Option StringAt) (c : Cursor) → Ok (t, c) ≡ string_result o → Ok c ≡ cursor_result o
string-end (ok w to rest) t c e = let both : ◌≡◌ {A = prelude.Option StringAt × Cursor} (t, c) (option_string w, cursor_at to) = cc in ap (λ p. Ok p.1) both
string-end (refused q) t c e = absurd (let z : ◌≡◌ {A = ℕ} 0 1 = cc in omega arith)

-- eight bytes that are passed over
pub eight : {B : Type 0} (f : ℕ → B) (at : ℕ) (s : Bytes) → cursor_result (run 8 at s) ≡ cursor_result (next (field 8 at s) (λ n. give (f n)))
eight f at s = sym (value (field 8 at s) f ∙ value (run 8 at s) little)

-- ## A string that must be there
module _ (at : ℕ) where
  pub present-none : (o : Read (Option LuaString)) (c : Cursor) → Ok (None, c) ≡ string_result o → Err (NullString at) ≡ cursor_result (next o (there at))
  present-none (ok none to rest) c e = refl
  present-none (ok (some t) to rest) c e =
      let both : ◌≡◌ {A = prelude.Option StringAt × Cursor} (None, c) (option_string (some t), cursor_at to) = cc in
      let absent : ◌≡◌ {A = prelude.Option StringAt} None (option_string (some t)) = ap (λ p. p.0) both in
      absurd (let z : ◌≡◌ {A = ℕ} 0 1 = cc in omega arith)
  present-none (refused q) c e = absurd (let z : ◌≡◌ {A = ℕ} 0 1 = cc in omega arith)

  pub present_some : (o : Read (Option LuaString)) (t : StringAt) (c : Cursor) → Ok (Some t, c) ≡ string_result o → Ok c ≡ cursor_result (next o (there at))
  present_some (ok none to rest) t c e =
      let both : ◌≡◌ {A = prelude.Option StringAt × Cursor} (Some t, c) (None, cursor_at to) = cc in
      let present : ◌≡◌ {A = prelude.Option StringAt} (Some t) None = ap (λ p. p.0) both in
      absurd (let z : ◌≡◌ {A = ℕ} 0 1 = cc in omega arith)
  present_some (ok (some u) to rest) t c e =
      let both : ◌≡◌ {A = prelude.Option StringAt × Cursor} (Some t, c) (option_string (some u), cursor_at to) = cc in
      ap (λ p. Ok p.1) both
  present_some (refused q) t c e = absurd (let z : ◌≡◌ {A = ℕ} 0 1 = cc in omega arith)

-- ## A constant's tag
module _ (s : Bytes) (limit at : ℕ) where
  pub tag_read : (v : ℕ) (c : Cursor) → Ok (v, c) ≡ shown (field 1 at (drop at s)) → {r : Result Cursor Refusal} → r ≡ cursor_result (strict_tagged limit at v c.at (drop c.at s))
      → r ≡ cursor_result (strict_constant limit at (drop at s))
  tag_read v c e f = rw (onward (exact_field 1) s at (shown_ok (field 1 at (drop at s)) v c e)) f

-- ## Anchors and local variables, by their parts
abbrev pub anchor_of : ℕ → ℕ → AbsLineInfo
anchor_of pc line = record { pc = pc; line = line }

abbrev local_of : LuaString → ℕ → ℕ → LocalVar
local_of name startpc endpc = record { name = name; startpc = startpc; endpc = endpc }

-- an anchor behind its first int
pub two : (pc at : ℕ) (s : Bytes) → cursor_result ((int >>= λ line. give (anchor_of pc line)) at s) ≡ cursor_result (int at s)
two pc at s = value (int at s) (anchor_of pc)

-- a local variable ends as a string and two ints
pub named : (limit at : ℕ) (s : Bytes) → cursor_result (strict_local limit at s) ≡ cursor_result ((string limit >> strict_anchor) at s)
named limit at s = by (string limit at s)
  where
    behind : LuaString → Reader LocalVar
    behind name = int >>= λ startpc. int >>= λ endpc. give (local_of name startpc endpc)

    ints : (name : LuaString) (at : ℕ) (s : Bytes) → cursor_result (behind name at s) ≡ cursor_result (strict_anchor at s)
    ints name at s = alike (int at s) (λ startpc. int >>= λ endpc. give (local_of name startpc endpc)) (λ pc. int >>= λ line. give (anchor_of pc line)) λ x at s. value (int at s) (local_of name x) ∙ sym (value (int at s) (anchor_of x))

    spelt : Option LuaString → Reader LuaString
    spelt t at s = ok (get_or t (record { place = at; bytes = 63 ∷ [] })) at s

    by : (o : Read (Option LuaString)) → cursor_result (next (next o spelt) behind) ≡ cursor_result (next o (λ _. strict_anchor))
    by (ok t to rest) = ints (get_or t (record { place = to; bytes = 63 ∷ [] })) to rest
    by (refused q) = refl
