-- What lundump.c's `loadUnsigned` loads is what we read as a number, and the difference in what is accepted.
--     loaded_exactly       under a limit, it accepts exactly the numbers below 128 times (the limit divided by 128) that we accept, with our value
--     size_exactly         a size is accepted exactly where we accept a number
--     int_exactly          an int is accepted exactly where we accept a number below 2^31 - 128
-- Assumes nothing.
use mathlib.Core.Path.{◌≡◌, refl}
use mathlib.Core.Logic.{◌↔◌}
use mathlib.Core.Bool.{Bool, true, false, cond}
use mathlib.Core.List.{[], ◌∷◌}
use Prim.Native.Nat.{ℕ, ◌+◌, ◌-◌, ◌*◌, ◌/◌, ◌%◌, ◌^◌, ◌≤◌, ◌<◌}
use native.Mathlib.Omega.{arith}
use lib.Bits.{bit_and, bit_or, and_mask, and_high, or_shifted}
use lib.Dec.{ltb, leb, eqb, lit<}
use borrow.Author.Tests.{lt-ltb, ltb-true, ltb-false, leb-false, lt-leb}
use Rattle.format.specs.Form.{Bytes, Below}
use Rattle.format.specs.Read.{ok}
use Rattle.format.specs.ReadFields.{groups}
use Rattle.format_lua.specs.Lundump.{loaded, integer_overflow, load_unsigned_loop, load_unsigned, load_size, load_int}
use Rattle.format.proofs.Exact.{never}
use Rattle.format.proofs.ExactFields.{groups_least, exact_number}

-- we read v, and leave these bytes
pub record Ours (high at : ℕ) (s : Bytes) (v : ℕ) (rest : Bytes) : Type 0 where
  pub to : ℕ
  pub is : groups high at s ≡ ok v to rest

-- the C's operations on a byte, in plain arithmetic
module _ (high b : ℕ) (byte : b < 256) where
  next-is : high < 2 ^ 57 - 1 → bit_or (high * 2 ^ 7 % 2 ^ 64) (bit_and b 0x7f) ≡ high * 128 + b % 128
  next-is h =
      let whole : high * 128 % 18446744073709551616 ≡ high * 128 = omega arith in
      rw (and_mask b 7, whole) (or_shifted high 7 (b % 128) (omega arith))

  goes_on_lem : b < 128 → eqb (bit_and b 0x80) 0 ≡ true
  goes_on_lem l =
      let none : b / 128 % 2 * 128 ≡ 0 = omega arith in
      rw (and_high b 1 7, none) refl

  ends : 128 ≤ b → eqb (bit_and b 0x80) 0 ≡ false
  ends l =
      let some : b / 128 % 2 * 128 ≡ 128 = omega arith in
      rw (and_high b 1 7, some) refl

-- one turn of the loop, by whether the byte is the last
module _ (l high at b v : ℕ) (s rest : Bytes) (small : l ≤ 2 ^ 57 - 1) (byte : b < 256) where
  loop_is : high < l → load_unsigned_loop l high (b ∷ s) ≡ cond (ltb b 128) (load_unsigned_loop l (high * 128 + b) s) (loaded (high * 128 + b % 128) s)
  loop_is h = go (ltb b 128) refl
    where
      go : (t : Bool) → ltb b 128 ≡ t → load_unsigned_loop l high (b ∷ s) ≡ cond t (load_unsigned_loop l (high * 128 + b) s) (loaded (high * 128 + b % 128) s)
      go true e =
          let under = ltb-true b 128 e in
          let same : b % 128 ≡ b = omega arith in
          rw (lt-leb l high h, next-is high b byte (omega arith), goes_on_lem high b byte under, same)
      go false e = rw (lt-leb l high h, next-is high b byte (omega arith), ends high b byte (ltb-false b 128 e))

  groups-is : high < l → groups high at (b ∷ s) ≡ cond (ltb b 128) (groups (high * 128 + b) (at + 1) s) (ok (high * 128 + b % 128) (at + 1) s)
  groups-is h = rw (lt-ltb high (2 ^ 57 - 1) (omega arith))

-- what is both ours and below the limit, Lua loads
c_of_ours : (s : Bytes) (l high at : ℕ) {v to : ℕ} {rest : Bytes} → l ≤ 2 ^ 57 - 1 → Below 256 s → groups high at s ≡ ok v to rest → v < l * 128 → load_unsigned_loop l high s ≡ loaded v rest
c_of_ours [] l high at small bytes e under = absurd (never e)
c_of_ours (b ∷ s) l high at {v} {to} {rest} small bytes e under =
    let h : high < l = omega (arith, groups_least (b ∷ s) high at e) in
    rw (loop_is l high at b v s rest small bytes.0 h)
    (go (ltb b 128) (rw (groups-is l high at b v s rest small bytes.0 h) at e) (λ f. c_of_ours s l (high * 128 + b) (at + 1) small bytes.1 f under))
  where
    go : (t : Bool) → cond t (groups (high * 128 + b) (at + 1) s) (ok (high * 128 + b % 128) (at + 1) s) ≡ ok v to rest
        → (groups (high * 128 + b) (at + 1) s ≡ ok v to rest → load_unsigned_loop l (high * 128 + b) s ≡ loaded v rest)
        → cond t (load_unsigned_loop l (high * 128 + b) s) (loaded (high * 128 + b % 128) s) ≡ loaded v rest
    go true f later = later f
    go false f later = cc

-- what Lua loads is ours, and below the limit
ours_of_c : (s : Bytes) (l high at : ℕ) {v : ℕ} {rest : Bytes} → l ≤ 2 ^ 57 - 1 → Below 256 s → load_unsigned_loop l high s ≡ loaded v rest → Ours high at s v rest × (v < l * 128)
ours_of_c [] l high at small bytes e = absurd (let z : ◌≡◌ {A = ℕ} 0 1 = cc in omega arith)
ours_of_c (b ∷ s) l high at {v} {rest} small bytes e = by_limit (leb l high) refl (ours_of_c s l (high * 128 + b) (at + 1) small bytes.1)
  where
    by_byte : high < l → (t : Bool) → ltb b 128 ≡ t → cond t (load_unsigned_loop l (high * 128 + b) s) (loaded (high * 128 + b % 128) s) ≡ loaded v rest
        → (load_unsigned_loop l (high * 128 + b) s ≡ loaded v rest → Ours (high * 128 + b) (at + 1) s v rest × (v < l * 128)) → Ours high at (b ∷ s) v rest × (v < l * 128)
    by_byte h true t e later =
        let o = later e in
        (record { to = o.0.to; is = rw (groups-is l high at b v s rest small bytes.0 h, t) o.0.is }, o.1)
    by_byte h false t e later =
        let value : high * 128 + b % 128 ≡ v = cc in
        (record { to = at + 1; is = rw (groups-is l high at b v s rest small bytes.0 h, t) (cc) }, omega arith)

    by_limit : (t : Bool) → leb l high ≡ t → (load_unsigned_loop l (high * 128 + b) s ≡ loaded v rest → Ours (high * 128 + b) (at + 1) s v rest × (v < l * 128)) → Ours high at (b ∷ s) v rest × (v < l * 128)
    by_limit true t later = absurd (let none : integer_overflow ≡ loaded v rest = rw t at e in let z : ◌≡◌ {A = ℕ} 0 1 = cc in omega arith)
    by_limit false t later =
        let h = leb-false l high t in
        by_byte h (ltb b 128) refl (rw (loop_is l high at b v s rest small bytes.0 h) at e) later

pub loaded_exactly : (limit at : ℕ) (s : Bytes) (v : ℕ) (rest : Bytes) → limit < 2 ^ 64 → Below 256 s → load_unsigned limit s ≡ loaded v rest ↔ (Ours 0 at s v rest × (v < limit / 128 * 128))
loaded_exactly limit at s v rest fits bytes =
    let small : limit / 128 ≤ 2 ^ 57 - 1 = omega arith in
    (λ e. ours_of_c s (limit / 128) 0 at small bytes e, λ o. c_of_ours s (limit / 128) 0 at small bytes o.0.is o.1)

pub size_exactly : (at : ℕ) (s : Bytes) (v : ℕ) (rest : Bytes) → Below 256 s → load_size s ≡ loaded v rest ↔ Ours 0 at s v rest
size_exactly at s v rest bytes =
    let both = loaded_exactly (2 ^ 64 - 1) at s v rest (lit< tt) bytes in
    (λ e. (both.0 e).0, λ o. both.1 (o, (exact_number.sound {at = at} {s = s} o.is).spelt.fits))

pub int_exactly : (at : ℕ) (s : Bytes) (v : ℕ) (rest : Bytes) → Below 256 s → load_int s ≡ loaded v rest ↔ (Ours 0 at s v rest × (v < 2 ^ 31 - 128))
int_exactly at s v rest bytes = loaded_exactly (2 ^ 31 - 1) at s v rest (lit< tt) bytes
