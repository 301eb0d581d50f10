-- A reader reads exactly a form: what it accepts is spelt so, and what is spelt so it accepts, with that value. One law for each way to make a reader.
-- Assumes nothing.
use mathlib.Core.Path.{◌≡◌, refl, sym, ◌∙◌, ap}
use mathlib.Core.Bool.{Bool, true, false}
use mathlib.Core.List.{List, [], ◌∷◌, ◌++◌, append_assoc, append-nil}
use Prim.Native.Nat.{ℕ, zero, suc, ◌+◌, ◌-◌, ◌≤◌, ◌<◌}
use native.Mathlib.Omega.{arith}
use native.Mathlib.Nat.{add-zero, add_assoc}
use lib.Dec.{T, leb, leb→le, le→leb}
use lib.ListN.{length, take, drop, length-append, take-append-drop}
use mathlib.Core.Logic.{◌↔◌}
use lib.Seq.{take_at, drop_at, length-take-le}
use Rattle.format.specs.Form.{Bytes, Form, Then, Is, Here, Given, Run, Many}
use Rattle.format.specs.declared.refusal.Refusal.{Refusal}
use Rattle.format.specs.Read.{Read, ok, refused, Reader, next, ◌>>=◌, give, here, refuse, test, at_most, piece, run, many}

-- the bytes s begin at a place with bytes of G that spell x, and `rest`, at the place `to`, is what stands behind them
pub record Split {A : Type 0} (G : Form A) (at : ℕ) (s : Bytes) (x : A) (to : ℕ) (rest : Bytes) : Type 0 where
  pub bytes : Bytes
  pub whole : s ≡ bytes ++ rest
  pub place : to ≡ at + length bytes
  pub spelt : G at bytes x

pub record Exact {A : Type 0} (r : Reader A) (G : Form A) : Type 0 where
  pub sound : {at : ℕ} {s : Bytes} {x : A} {to : ℕ} {rest : Bytes} → r at s ≡ ok x to rest → Split G at s x to rest
  pub complete : {at : ℕ} {bytes : Bytes} {x : A} (rest : Bytes) → G at bytes x → r at (bytes ++ rest) ≡ ok x (at + length bytes) rest

-- a refusal is no acceptance
pub never : {A : Type 0} {q : Refusal} {x : A} {to : ℕ} {rest : Bytes} → refused q ≡ ok x to rest → ⊥
never e = let z : ◌≡◌ {A = ℕ} 0 1 = cc in omega arith

-- no bytes: the reader stays where it is
stay : {A : Type 0} {G : Form A} {at : ℕ} {s : Bytes} {x y : A} {to : ℕ} {rest : Bytes} → G at [] y → ok x at s ≡ ok y to rest → Split G at s y to rest
stay {at} g e = record { bytes = []; whole = cc; place = cc (add-zero at); spelt = g }

stays : {A : Type 0} {at : ℕ} {bytes : Bytes} {x y : A} {rest : Bytes} → bytes ≡ [] → x ≡ y → ok x at (bytes ++ rest) ≡ ok y (at + length bytes) rest
stays {at} e f = cc (add-zero at)

pub exact_give : {A : Type 0} (x : A) → Exact (give x) (Is x)
exact_give x = record { sound = λ e. stay (refl, cc) e; complete = λ rest g. stays g.0 g.1 }

pub exact_here : Exact here Here
exact_here = record { sound = λ e. stay (refl, cc) e; complete = λ rest g. stays g.0 g.1 }

pub exact_test : (b : Bool) (q : Refusal) → Exact (test b q) (Given (T b))
exact_test true q = record { sound = λ e. stay (refl, tt) e; complete = λ rest g. stays g.0 refl }
exact_test false q = record { sound = λ e. absurd (never e); complete = λ rest g. absurd g.1 }

-- two readers one after the other
module _ {A B : Type 0} {F : Form A} {G : A → Form B} where
  join : {at : ℕ} {s : Bytes} {x : A} {mid : ℕ} {t : Bytes} {y : B} {to : ℕ} {rest : Bytes}
      → Split F at s x mid t → Split (G x) mid t y to rest → Split (Then F G) at s y to rest
  join {x} a b = record {
    bytes = a.bytes ++ b.bytes;
    whole = rw append_assoc (cc);
    place = simp length-append (omega arith);
    spelt = record { value = x; front = a.bytes; back = b.bytes; whole = refl; one = a.spelt; two = rw a.place at b.spelt };
  }

module _ {A B : Type 0} {r : Reader A} {F : Form A} {f : A → Reader B} {G : A → Form B} (one : Exact r F) (two : (x : A) → Exact (f x) (G x)) where
  pub exact_then : Exact (r >>= f) (Then F G)
  exact_then = record { sound = λ {at} {s} e. front (r at s) refl e; complete = λ rest g. back rest g }
    where
      front : {at : ℕ} {s : Bytes} {y : B} {to : ℕ} {rest : Bytes} (o : Read A) → r at s ≡ o → next o f ≡ ok y to rest → Split (Then F G) at s y to rest
      front (ok x mid t) p e = join (one.sound p) ((two x).sound e)
      front (refused q) p e = absurd (never e)

      back : {at : ℕ} {bytes : Bytes} {y : B} (rest : Bytes) → Then F G at bytes y → next (r at (bytes ++ rest)) f ≡ ok y (at + length bytes) rest
      back rest g = rw (g.whole, append_assoc, one.complete (g.back ++ rest) g.one, length-append, ← add_assoc) ((two g.value).complete rest g.two)

-- a reader that looks up the place, for its refusals alone
pub exact_place : {B : Type 0} {f : ℕ → Reader B} {G : Form B} → ((x : ℕ) → Exact (f x) G) → Exact (here >>= f) G
exact_place two = record { sound = λ {at} e. (two at).sound e; complete = λ {at} rest g. (two at).complete rest g }

-- the same bytes, said in another way
pub exact_as : {A : Type 0} {r : Reader A} {F G : Form A} → ((at : ℕ) (bytes : Bytes) (x : A) → F at bytes x ↔ G at bytes x) → Exact r F → Exact r G
exact_as same one = record {
  sound = λ e. let a = one.sound e in record { bytes = a.bytes; whole = a.whole; place = a.place; spelt = (same _ _ _).0 a.spelt };
  complete = λ rest g. one.complete rest ((same _ _ _).1 g);
}

pub exact_at_most : (n m : ℕ) (q : Refusal) → Exact (at_most n m q) (Given (n ≤ m))
exact_at_most n m q = exact_as (λ _ _ _. (λ g. (g.0, leb→le n m g.1), λ g. (g.0, le→leb n m g.1))) (exact_test (leb n m) q)

-- what is spelt is read: where the bytes are there a run is not cut short
run_complete : (n at : ℕ) (bytes : Bytes) {x : Bytes} (rest : Bytes) → Run n at bytes x → run n at (bytes ++ rest) ≡ ok x (at + length bytes) rest
run_complete n at bytes {x} rest g = back (leb n (length (bytes ++ rest))) (le→leb n (length (bytes ++ rest)) (rw length-append (omega arith)))
  where
    back : (b : Bool) → T b → piece b n at (bytes ++ rest) ≡ ok x (at + length bytes) rest
    back true h = cc (take_at bytes rest n g.1, drop_at bytes rest n g.1)
    back false h = elim h [ ]

pub exact_run : (n : ℕ) → Exact (run n) (Run n)
exact_run n = record { sound = λ {at} {s} e. front (leb n (length s)) (leb→le n (length s)) e; complete = λ {at} {bytes} rest g. run_complete n at bytes rest g }
  where
    front : {at : ℕ} {s : Bytes} {x : Bytes} {to : ℕ} {rest : Bytes} (b : Bool) → (T b → n ≤ length s) → piece b n at s ≡ ok x to rest → Split (Run n) at s x to rest
    front {at} {s} true le e =
        let size : length (take n s) ≡ n = length-take-le n s (le tt) in
        record { bytes = take n s; whole = cc (take-append-drop n s); place = cc; spelt = (cc, size) }
    front false le e = absurd (never e)

pub exact_many : {A : Type 0} {r : Reader A} {F : Form A} (n : ℕ) → Exact r F → Exact (many n r) (Many n F)
exact_many zero one = exact_give []
exact_many (suc n) one = exact_then one λ x. exact_then (exact_many n one) λ xs. exact_give (x ∷ xs)
