-- The answers of `read_anchor` and `read_local`, in the code's terms: s is the slice, and each part was read at the cursor behind the part before.
-- Assumes nothing.
use Rattle.std.specs.Prelude as prelude
use Rattle.std.specs.Prelude.{Ok, Err}
use Rattle.read_field.specs.declared.string.StringAt.{StringAt}
use mathlib.Core.Path.{◌≡◌, refl, ◌∙◌, ap}
use mathlib.Core.List.{[], ◌∷◌}
use mathlib.Core.Option.{Option, get_or}
use Prim.Native.Nat.{ℕ}
use lib.ListN.{drop}
use Rattle.format.specs.declared.refusal.Refusal.{Refusal}
use Rattle.format.specs.declared.entry.AbsLineInfo.{AbsLineInfo}
use Rattle.format.specs.Form.{Bytes}
use Rattle.format.specs.GrammarFields.{LuaString}
use Rattle.format.specs.Reading.{LocalVar}
use Rattle.format.specs.Read.{Read, ok, refused, Reader, next, ◌>>=◌, give, here}
use Rattle.format.specs.ReadFields.{number, string}
use Rattle.format.specs.ReadChunk.{anchor, local}
use Rattle.format.proofs.ExactFields.{exact_number, exact_string}
use Rattle.slice.specs.declared.cursor.Cursor.{Cursor}
use Rattle.read_field.specs.Shown.{shown, option_string, string_result}
use Rattle.read_field.proofs.Shows.{Was, Showed, Passed, onward, shown_err, shown_ok, string_err, string-ok, shown_as_err, shown_as_ok}
use Rattle.read_entry.specs.declared.debug.LocalAt.{LocalAt}
use Rattle.read_entry.specs.Readers.{RawLocal, raw_local}
use Rattle.read_entry.specs.Inner.Counts.{named}
use Rattle.read_entry.specs.Shown.{anchor_result, local_at, local_result}

-- ## Anchors
module _ (s : Bytes) (at : ℕ) where
  pub pc_refused : (q : Refusal) → Err q ≡ shown (number at (drop at s)) → Err q ≡ anchor_result (anchor at (drop at s))
  pc_refused q e = rw (shown_err (number at (drop at s)) q e)

  module _ (pc : ℕ) (c : Cursor) (e : Ok (pc, c) ≡ shown (number at (drop at s))) where
    from-line : anchor at (drop at s) ≡ next (number c.at (drop c.at s)) (λ line. give (record { pc = pc; line = line }))
    from-line = rw (onward exact_number s at (shown_ok (number at (drop at s)) pc c e))

    pub line_refused : (q : Refusal) → Err q ≡ shown (number c.at (drop c.at s)) → Err q ≡ anchor_result (anchor at (drop at s))
    line_refused q f = rw (from-line, shown_err (number c.at (drop c.at s)) q f)

    pub anchor-read : (line : ℕ) (end : Cursor) → Ok (line, end) ≡ shown (number c.at (drop c.at s))
        → Ok ((record { pc = pc; line = line }), end) ≡ anchor_result (anchor at (drop at s))
    anchor-read line end f = rw (from-line, (shown_ok (number c.at (drop c.at s)) line end f).is)

-- ## Local variables
module _ (s : Bytes) (limit at : ℕ) where
  pub name-refused : (q : Refusal) → Err q ≡ string_result (string limit at (drop at s)) → Err q ≡ local_result (raw_local limit at (drop at s))
  name-refused q e = rw (string_err (string limit at (drop at s)) q e)

  module _ (name : prelude.Option StringAt) (c : Cursor) (e : Ok (name, c) ≡ string_result (string limit at (drop at s))) where
    spelt : Showed option_string (string limit at (drop at s)) name c.at
    spelt = string-ok (string limit at (drop at s)) name c e

    abbrev numbered : ℕ → ℕ → RawLocal
    numbered startpc endpc = record { name = spelt.value; behind = c.at; startpc = startpc; endpc = endpc }

    from-startpc : raw_local limit at (drop at s) ≡ next (number c.at (drop c.at s)) (λ startpc. number >>= λ endpc. give (numbered startpc endpc))
    from-startpc = rw (onward (exact_string limit) s at spelt.was)

    pub startpc-refused : (q : Refusal) → Err q ≡ shown (number c.at (drop c.at s)) → Err q ≡ local_result (raw_local limit at (drop at s))
    startpc-refused q f = rw (from-startpc, shown_err (number c.at (drop c.at s)) q f)

    module _ (startpc : ℕ) (d : Cursor) (f : Ok (startpc, d) ≡ shown (number c.at (drop c.at s))) where
      from-endpc : raw_local limit at (drop at s) ≡ next (number d.at (drop d.at s)) (λ endpc. give (numbered startpc endpc))
      from-endpc = rw (from-startpc, onward exact_number s c.at (shown_ok (number c.at (drop c.at s)) startpc d f))

      pub endpc-refused : (q : Refusal) → Err q ≡ shown (number d.at (drop d.at s)) → Err q ≡ local_result (raw_local limit at (drop at s))
      endpc-refused q g = rw (from-endpc, shown_err (number d.at (drop d.at s)) q g)

      pub local-read : (endpc : ℕ) (end : Cursor) → Ok (endpc, end) ≡ shown (number d.at (drop d.at s))
          → Ok ((record { name = name; startpc = startpc; endpc = endpc }), end) ≡ local_result (raw_local limit at (drop at s))
      local-read endpc end g = rw (from-endpc, (shown_ok (number d.at (drop d.at s)) endpc end g).is) (ap (λ n. Ok ((record { name = n; startpc = startpc; endpc = endpc }), end)) spelt.shows)

-- a local variable is one with its name as it is spelt, and `?` where it has none: behind the name, and behind each number
module _ (name : Option LuaString) (behind : ℕ) where
  abbrev raw : ℕ → ℕ → RawLocal
  raw startpc endpc = record { name = name; behind = behind; startpc = startpc; endpc = endpc }

  named-endpc : (startpc : ℕ) (o : Read ℕ) → next o (λ endpc. give (named (raw startpc endpc))) ≡ next (next o (λ endpc. give (raw startpc endpc))) (λ l. give (named l))
  named-endpc startpc (ok endpc to rest) = refl
  named-endpc startpc (refused q) = refl

  named-startpc : (o : Read ℕ) → next o (λ startpc. number >>= λ endpc. give (named (raw startpc endpc))) ≡ next (next o (λ startpc. number >>= λ endpc. give (raw startpc endpc))) (λ l. give (named l))
  named-startpc (ok startpc to rest) = named-endpc startpc (number to rest)
  named-startpc (refused q) = refl

-- what `local` and `rawLocal` read behind the spelt name
abbrev or_unknown : Option LuaString → Reader LuaString
or_unknown name = here >>= λ place. give (get_or name (record { place = place; bytes = 63 ∷ [] }))

abbrev pub numbers : LuaString → Reader LocalVar
numbers name = number >>= λ startpc. number >>= λ endpc. give (record { name = name; startpc = startpc; endpc = endpc })

abbrev raw_numbers : Option LuaString → Reader RawLocal
raw_numbers name = here >>= λ behind. number >>= λ startpc. number >>= λ endpc. give (raw name behind startpc endpc)

pub local-named : (limit at : ℕ) (s : Bytes) → local limit at s ≡ next (raw_local limit at s) (λ l. give (named l))
local-named limit at s = go (string limit at s)
  where
    go : (o : Read (Option LuaString)) → next (next o or_unknown) numbers ≡ next (next o raw_numbers) (λ l. give (named l))
    go (ok name to rest) = named-startpc name to (number to rest)
    go (refused q) = refl

-- ## From what was shown back to what was read
pub anchor_err : (o : Read AbsLineInfo) (q : Refusal) → Err q ≡ anchor_result o → o ≡ refused q
anchor_err = shown_err

pub anchor-ok : (o : Read AbsLineInfo) (a : AbsLineInfo) (c : Cursor) → Ok (a, c) ≡ anchor_result o → Was o a c.at
anchor-ok = shown_ok

-- of a local variable, with its name
module _ (limit at : ℕ) (s : Bytes) where
  pub local-refused : (q : Refusal) → Err q ≡ local_result (raw_local limit at s) → local limit at s ≡ refused q
  local-refused q e = local-named limit at s ∙ rw (shown_as_err local_at (raw_local limit at s) q e)

  pub local-passed : (l : LocalAt) (c : Cursor) → Ok (l, c) ≡ local_result (raw_local limit at s) → Passed (local limit at s) c.at
  local-passed l c e =
      let w = shown_as_ok local_at (raw_local limit at s) l c e in
      record { value = named w.value; was = record { rest = w.was.rest; is = local-named limit at s ∙ ap (λ o. next o (λ l. give (named l))) w.was.is } }
