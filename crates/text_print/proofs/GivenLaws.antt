-- Laws of what a writer was given.
--     given_more      a write behind those before it
--     filled_full     a buffer that the last byte fills is given whole, filled_given, or the writer fails
--     begins          a printer of several parts: nothing is given yet, and all of the text is still to come
--     put_next        the next part was put
--     stops           .. or could not be
--     ends            the last part
--     printed_err     a printer whose call failed
--     written_after   and then what waits is written out
-- Assumes nothing.
use Rattle.std.specs.Prelude.{
  ℕ,
  ◌+◌,
  ◌-◌,
  ◌≤◌,
  ◌≡◌,
  List,
  [],
  ◌∷◌,
  ◌++◌,
  length,
  take,
  drop,
  set,
  Option,
  None,
  Some,
  Result,
  Ok,
  Err,
}
use Rattle.std.proofs.Common.{refl, sym, ap, subst, ◌∙◌, append_assoc, append-nil, length-append, arith}
use Rattle.std.proofs.Math.Seq.{take-add}
use Rattle.std.proofs.lemmas.List.{take-append-drop, take_all, take_more_set, length-drop, length-set}
use Rattle.std.proofs.lemmas.Result.{MatchResult-from_err}
use Rattle.std.specs.Result.{IsErr}
use Rattle.std.specs.Io.KnownBytes.{Appends, Keeps}
use Rattle.text_print.specs.Output.{ROOM, Gives, Cut, Full, Written, Printed}

-- ## Writes
pub appends_nothing : (o : Option (List ℕ)) → Appends o o []
appends_nothing None = tt
appends_nothing (Some o) = sym (append-nil o)

pub appends_both : (o m n : Option (List ℕ)) (xs ys : List ℕ) → Appends o m xs → Appends m n ys → Appends o n (xs ++ ys)
appends_both None m n xs ys a b = tt
appends_both (Some o) None n xs ys a b = absurd a
appends_both (Some o) (Some m) None xs ys a b = absurd b
appends_both (Some o) (Some m) (Some n) xs ys a b = b ∙ ap (λ l. l ++ ys) a ∙ append_assoc o xs ys

pub appends_kept : (o m n : Option (List ℕ)) (xs : List ℕ) → Appends o m xs → Keeps m n → Appends o n xs
appends_kept None m n xs a b = tt
appends_kept (Some o) None n xs a b = absurd a
appends_kept (Some o) (Some m) None xs a b = absurd b
appends_kept (Some o) (Some m) (Some n) xs a b = b ∙ a

-- `more` bytes of those that are left
pub given_more : (o m n : Option (List ℕ)) (bytes : List ℕ) (done more : ℕ) → Appends o m (take done bytes)
    → Appends m n (take more (take (length bytes - done) (drop done bytes))) → Appends o n (take (done + more) bytes)
given_more o m n bytes done more a b =
    let all : take (length bytes - done) (drop done bytes) ≡ drop done bytes = take_all _ (drop done bytes)
    (omega (arith, length-drop done bytes)) in
    subst (λ l. Appends o n l) (sym (take-add done more bytes))
    (appends_both o m n (take done bytes) (take more (drop done bytes)) a
    (subst (λ l. Appends m n (take more l)) all b))

-- a front of the bytes was given
pub cut_at : (o n : Option (List ℕ)) (bytes : List ℕ) (done : ℕ) → Appends o n (take done bytes) → Cut o n bytes
cut_at o n bytes done a =
    record {
      lost = drop done bytes;
      front =
          record { given = take done bytes; appended = a; whole = take-append-drop done bytes };
    }

pub written_err : {V E : Type 0} (o n : Option (List ℕ)) (text : List ℕ) (r : Result V E) → IsErr r → Cut o n text
    → Written o n text r
written_err o n text r e cut = MatchResult-from_err r _ _ e (λ _. cut)

-- ## A buffer that the last byte fills
pub filled : (out : List ℕ) (used b : ℕ) → length out ≡ used + 1 → set out used b ≡ take used out ++ b ∷ []
filled out used b h = sym (take_all (used + 1) (set out used b) (omega (arith, length-set out used b)))
    ∙ take_more_set out used b (omega arith)

module _ (o n : Option (List ℕ)) (out : List ℕ) (used b : ℕ) (last : length out ≡ used + 1) where
  pub filled_full : ROOM ≤ used + 1 → Cut o n (set out used b) → Full o n (take used out ++ b ∷ [])
  filled_full much cut = record {
    cut = subst (Cut o n) (filled out used b last) cut;
    much = omega (arith, ap (λ (l : List ℕ). length l) (filled out used b last), length-set out used b);
  }

  pub filled_given : Appends o n (set out used b) → Gives o n (take used out ++ b ∷ []) []
  filled_given a = record {
    given = set out used b;
    appended = a;
    whole = append-nil (set out used b)
        ∙ filled out used b last;
  }

-- ## Part by part. `waits` is what waits, `next` the next part of the text, `more` what comes behind it
pub begins : (o : Option (List ℕ)) (text : List ℕ) → Gives o o text text
begins o text = record { given = []; appended = appends_nothing o; whole = refl }

module _ (o m n : Option (List ℕ)) (text waits next more : List ℕ)
    (before : Gives o m text (waits ++ (next ++ more))) where
  -- what was given before, and then
  both : (given left : List ℕ) → given ++ left ≡ waits ++ next → (before.given ++ given) ++ (left ++ more) ≡ text
  both given left h =
      append_assoc before.given given (left ++ more)
      ∙ ap (λ l. before.given ++ l)
      (sym (append_assoc given left more) ∙ ap (λ l. l ++ more) h ∙ append_assoc waits next more)
      ∙ before.whole

  pub put_next : (left : List ℕ) → Gives m n (waits ++ next) left → Gives o n text (left ++ more)
  put_next left h = record {
    given = before.given ++ h.given;
    appended = appends_both o m n before.given h.given before.appended h.appended;
    whole = both h.given left h.whole;
  }

  pub stops : Full m n (waits ++ next) → Full o n text
  stops h = record {
    cut = record { lost = h.cut.lost ++ more; front = put_next h.cut.lost h.cut.front };
    much = omega (
      arith,
      h.much,
      ap (λ (l : List ℕ). length l) before.whole,
      length-append before.given
          (waits ++ (next ++ more)),
      length-append waits (next ++ more),
      length-append next more,
      length-append waits next,
    );
  }

pub no_more : (o n : Option (List ℕ)) (text waits : List ℕ) → Gives o n text (waits ++ []) → Gives o n text waits
no_more o n text waits = subst (λ l. Gives o n text l) (append-nil waits)

pub ends : {E : Type 0} (o m n : Option (List ℕ)) (text waits last bytes : List ℕ) (r : Result ℕ E) → Gives o m text
    (waits ++ last) → Printed m n (waits ++ last) bytes r → Printed o n text bytes r
ends {E} o m n text waits last bytes r before h = by r
    (subst (λ l. Gives o m text (waits ++ l)) (sym (append-nil last)) before) h
  where
    by : (r : Result ℕ E) → Gives o m text (waits ++ (last ++ [])) → Printed m n (waits ++ last) bytes r
        → Printed o n text bytes r
    by (Ok used) b h = no_more o n text (take used bytes) (put_next o m n text waits last [] b (take used bytes) h)
    by (Err e) b h = stops o m n text waits last [] b h

pub printed_err : {E : Type 0} (o n : Option (List ℕ)) (text bytes : List ℕ) (r : Result ℕ E) → IsErr r → Full o n text
    → Printed o n text bytes r
printed_err o n text bytes r e full = MatchResult-from_err r _ _ e (λ _. full)

-- ## What waits is written out in the end
pub written_after : {V E : Type 0} (o m n : Option (List ℕ)) (text waits : List ℕ) (r : Result V E)
    → Gives o m text waits → Written m n waits r → Written o n text r
written_after o m n text waits (Ok v) before a = subst (λ l. Appends o n l) before.whole
    (appends_both o m n before.given waits before.appended a)
written_after o m n text waits (Err e) before cut = record {
  lost = cut.lost;
  front = record {
    given = before.given ++ cut.front.given;
    appended = appends_both o m n before.given cut.front.given before.appended cut.front.appended;
    whole = append_assoc before.given cut.front.given cut.lost ∙ ap (λ l. before.given ++ l) cut.front.whole
        ∙ before.whole;
  };
}

-- nothing was given
pub nothing_given : (o : Option (List ℕ)) (text : List ℕ) → Cut o o text
nothing_given o text = record { lost = text; front = begins o text }
