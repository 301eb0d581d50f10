-- A local variable and what is lent for its name, from the bytes of a chunk whose function 4 has numbers that all differ (crates/format/proofs/Distinct.antt): the first, which has a name, the last, which has none and
-- reads as `?`, one behind the last (24), and one of a function that is not there (23); antt computes both lists.
--     answers_hold     the name's length, startpc, endpc; 26 where no space is lent
--     names_hold       what then stands in the lent space
-- Told apart: startpc and endpc exchanged, an absent name of length 0, space beyond the name touched, space touched on a refusal.
-- Assumes nothing.
use Rattle.std.specs.Prelude.{Result, Ok, Err}
use Rattle.format.specs.declared.refusal.Refusal.{Refusal}
use Rattle.show_local.specs.declared.LocalShown.{LocalShown}
use mathlib.Core.Path.{◌≡◌, refl}
use mathlib.Core.List.{List, [], ◌∷◌, map}
use Prim.Native.Nat.{ℕ}
use lib.ListN.{length}
use Rattle.format.specs.declared.refusal.Refusal.TheVariants.{NoFunction, NoEntry, LentSpace}
use Rattle.format.specs.Form.{Bytes}
use Rattle.format.specs.Limits.{ceilings}
use Rattle.format.specs.Reading.{LocalVar}
use Rattle.format.specs.ReadChunk.{body, function, read}
use Rattle.format.proofs.Distinct.{distinct}
use Rattle.show_row.specs.Asked.{Asked, entry_of}
use Rattle.show_local.specs.Locals.{shown_local, name_written}

abbrev found : ℕ → ℕ → Asked LocalVar
found f n = entry_of (λ p. p.loc_vars) f n (read ceilings distinct)

record Case : Type 0 where
  of : ℕ
  entry : ℕ
  lent : Bytes
  answer : Result LocalShown Refusal
  then : Bytes

cases : List Case
cases =
    record { of = 4; entry = 0; lent = 1 ∷ 2 ∷ []; answer = Ok (record { name_len = 1; startpc = 5; endpc = 6 }); then = 0x76 ∷ 2 ∷ [] }
    ∷ record { of = 4; entry = 9; lent = 1 ∷ []; answer = Ok (record { name_len = 1; startpc = 0; endpc = 0 }); then = 0x3f ∷ [] }
    ∷ record { of = 4; entry = 0; lent = []; answer = Err LentSpace; then = [] }
    ∷ record { of = 4; entry = 10; lent = 1 ∷ []; answer = Err NoEntry; then = 1 ∷ [] }
    ∷ record { of = 9; entry = 0; lent = 1 ∷ []; answer = Err NoFunction; then = 1 ∷ [] }
    ∷ []

answers_hold : map (λ (c : Case). shown_local (length c.lent) (found c.of c.entry)) cases ≡ map (λ (c : Case). c.answer) cases
unfolding cases distinct read body function
answers_hold = refl

names_hold : map (λ (c : Case). name_written c.lent (found c.of c.entry)) cases ≡ map (λ (c : Case). c.then) cases
unfolding cases distinct read body function
names_hold = refl
