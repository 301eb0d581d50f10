-- The returns of the functions that copy an entry, by what their calls showed and put.
-- Assumes nothing.
use Rattle.std.specs.Prelude as prelude
use Rattle.std.specs.Prelude.{Ok, Err}
use Rattle.read_field.specs.declared.string.StringAt.{StringAt}
use mathlib.Core.Path.{◌≡◌, ◌∙◌, ap}
use mathlib.Core.Option.{Option}
use Prim.Native.Nat.{ℕ}
use lib.ListN.{drop}
use Rattle.format.specs.declared.entry.AbsLineInfo.{AbsLineInfo}
use Rattle.format.specs.Form.{Bytes, Below}
use Rattle.format.specs.GrammarFields.{LuaString}
use Rattle.format.specs.Read.{next, give}
use Rattle.format.specs.ReadFields.{string}
use Rattle.format.specs.ReadChunk.{constant, anchor, local}
use Rattle.format.specs.Shortest.{shortest}
use Rattle.format.specs.Copy.{option_bytes, anchor_bytes, local_bytes, constant_bytes}
use Rattle.format.proofs.Located.{StandsIf, at-string}
use Rattle.slice.specs.declared.cursor.Cursor.{Cursor}
use Rattle.read_field.specs.Shown.{option_string, string_result}
use Rattle.read_field.proofs.Shows.{Was, string-ok, shown_as_ok}
use Rattle.read_entry.specs.declared.constant.ConstantValue as declared
use Rattle.read_entry.specs.declared.debug.LocalAt.{LocalAt}
use Rattle.read_entry.specs.Readers.{RawLocal, raw_local}
use Rattle.read_entry.specs.Inner.Counts.{named}
use Rattle.read_entry.specs.Shown.{constant_result, anchor_result, local_at, local_result}
use Rattle.read_entry.proofs.Constants.{constant-ok}
use Rattle.read_entry.proofs.DebugInfo.{local-named, anchor-ok}
use Rattle.copy_put.specs.Inner.Put.{Put, Puts}
use Rattle.copy_put.specs.Inner.Text.{There, spelt, spelt_name}
use Rattle.copy_entry.specs.Inner.Value.{Stood, value_bytes}
use Rattle.copy_put.proofs.Writes.{put_then}
use Rattle.copy_entry.proofs.Entries.{puts_of, there-is, spelt_is, name-is, at-raw_local}
use Rattle.copy_entry.proofs.Values.{at_constant}

-- ## Strings
pub string-put : (s : Bytes) (t : Option LuaString) (shown : prelude.Option StringAt) {at : ℕ} {l : Bytes} {behind : ℕ} {l' : Bytes} → StandsIf s t → shown ≡ option_string t
    → (There s shown → Put (spelt s shown) at l behind l') → Put (option_bytes t) at l behind l'
string-put s t shown h e p = rw (← spelt_is s t h, ← e) (p (rw e (there-is s t h)))

module _ (s : Bytes) (limit at : ℕ) where
  pub name-put : {shown : prelude.Option StringAt} {c : Cursor} {w behind : ℕ} {l l' : Bytes} → Ok (shown, c) ≡ string_result (string limit at (drop at s)) → (There s shown → Put (spelt s shown) w l behind l')
      → Puts option_bytes (string limit at (drop at s)) w l c.at behind l'
  name-put {shown} {c} e p = let o = string-ok (string limit at (drop at s)) shown c e in puts_of o.was (string-put s o.value shown ((at-string {s = s} {at = at} limit).holds o.was.is) o.shows p)

-- ## Anchors
module _ (s : Bytes) (at : ℕ) where
  pub anchor-put : {a : AbsLineInfo} {c : Cursor} {w w₁ behind : ℕ} {l l₁ l' : Bytes} → Ok (a, c) ≡ anchor_result (anchor at (drop at s)) → Put (shortest a.pc) w l w₁ l₁ → Put (shortest a.line) w₁ l₁ behind l'
      → Puts anchor_bytes (anchor at (drop at s)) w l c.at behind l'
  anchor-put {a} {c} e p q = puts_of (anchor-ok (anchor at (drop at s)) a c e) (put_then p q)

-- ## Local variables
parts-put : (s : Bytes) (l : RawLocal) (name : prelude.Option StringAt) (startpc endpc : ℕ) {w w₁ w₂ behind : ℕ} {k k₁ k₂ k' : Bytes} → StandsIf s l.name → name ≡ option_string l.name → startpc ≡ l.startpc → endpc ≡ l.endpc
    → (There s name → Put (spelt_name s name) w k w₁ k₁) → Put (shortest startpc) w₁ k₁ w₂ k₂ → Put (shortest endpc) w₂ k₂ behind k' → Put (local_bytes (named l)) w k behind k'
parts-put s l name startpc endpc stands e f g p q r = rw (← name-is s l stands, ← e, ← f, ← g) (put_then (p (rw e (there-is s l.name stands))) (put_then q r))

module _ (s : Bytes) (limit at : ℕ) where
  pub local-put : {v : LocalAt} {c : Cursor} {w w₁ w₂ behind : ℕ} {l l₁ l₂ l' : Bytes} → Ok (v, c) ≡ local_result (raw_local limit at (drop at s))
      → (There s v.name → Put (spelt_name s v.name) w l w₁ l₁) → Put (shortest v.startpc) w₁ l₁ w₂ l₂ → Put (shortest v.endpc) w₂ l₂ behind l' → Puts local_bytes (local limit at (drop at s)) w l c.at behind l'
  local-put {v} {c} e p q r =
      let o = shown_as_ok local_at (raw_local limit at (drop at s)) v c e in
      let stands = (at-raw_local s {at = at} limit).holds o.was.is in
      let whole : Was (local limit at (drop at s)) (named o.value) c.at = record { rest = o.was.rest; is = local-named limit at (drop at s) ∙ ap (λ z. next z (λ l. give (named l))) o.was.is } in
      puts_of whole (parts-put s o.value v.name v.startpc v.endpc stands (ap (λ l. l.name) o.shows) (ap (λ l. l.startpc) o.shows) (ap (λ l. l.endpc) o.shows) p q r)

-- ## Constants
module _ (s : Bytes) (limit at : ℕ) where
  pub constant-put : {v : declared.ConstantValue} {c : Cursor} {w behind : ℕ} {l l' : Bytes} → Below 256 s → Ok (v, c) ≡ constant_result (constant limit at (drop at s))
      → (Stood s at c.at v → Put (value_bytes s at c.at v) w l behind l') → Puts constant_bytes (constant limit at (drop at s)) w l c.at behind l'
  constant-put {v} {c} bytes e p =
      let o = constant-ok (constant limit at (drop at s)) v c e in
      let kept = (at_constant s bytes at limit).holds o.was.is in
      puts_of o.was (rw (← kept.same, ← o.shows) (p (rw o.shows kept.stood)))
