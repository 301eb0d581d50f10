-- WHAT A CALL PROMISES: the frame of every theorem on a call, said once.
--     Promise T c k says             the call k, whose source is compiled to the code c, asks nothing of its caller and keeps
--                                    `says`, a list of facts on its parameters and its result. T is its signature
--     PromiseWhere T c k asks says   the same of a call that asks something
--     PromiseGiven T given ..        the same of a call over a type, where the type meets its bounds
--     ends, ends_given               what a promise gives on the machine: THE CALL ENDS
--     ends_in                        so it does in every program that has the code, and then no premise is left
-- `says` is handed each parameter in its order, and behind a `&mut` that parameter again, as it is when the call is over;
-- then the result. `x.now` is what stands behind the reference x.
-- A contract joins its clauses one by one, and so do `facts`: antt holds a promise and the contract in the .rt file to be
-- the same, word for word.
-- Which run is meant. The kit hands on, of each function, its name and its code (`Symbol`): the MIR of its source, and
-- behind it that of all that it calls. `env` says of each name which routine of the machine it stands for, and
-- `Wired env c` (the kit's logic/Prog/Wired.antt) that it does at the function's name what its code does, and at each name
-- in that code what that one's code does, down to the last. A promise is said of the routine `env k` in every such `env`:
-- so of the call itself, compiled from its source, and never of what a contract says of it. That programs which are linked
-- of the code are such: the kit's logic/Prog/LinkedThreads.antt, by which `ends_in` goes.
-- What `Meets` means (the kit's logic/PROOFS.md; its logic/Denote/Triple/Spec.antt and Adequate.antt): whatever the
-- arguments are, and with nothing but what the parameters' types own, the call's own run on the kit's machine is SAFE (no
-- load or store out of bounds, no sum, difference, product or cast that does not fit, no zero divisor), it ENDS, and then
-- what `says` says holds. It is total correctness: a call that does not end meets no promise. What is said of lent memory
-- is said of what the lender finds there when the loan is over. The machine has no stack and counts no time: of these
-- nothing is said.
-- Assumes nothing.
use mathlib.Core.Path.{◌≡◌}
use mathlib.Core.Bool.{true}
use mathlib.Core.List.{List, [], ◌∷◌}
use Prim.Native.Nat.{ℕ}
use seplogic.Ra.Ura.{Ura}
use mir.Syntax.{Symbol}
use mir.Val.{Val}
use base.Logic.{SProp, emp, sep}
use prog.Memory.{Memory}
use prog.Machine.{done}
use prog.Masks.{Masks}
use prog.Model.{Model}
use prog.Routine.{Callee, Env, step}
use prog.Wired.{Code, Wired}
use prog.Linked.{Entry}
use prog.LinkedThreads.{HasT, has-wired_t, tie_t, tie_t-follows, tie_t-threads}
use types.Logic.{Logic}
use ghost.Model as Closed
use contract.BorrowModel.{logic₀}
use contract.Closed.{model⁺, turned, masked}
use contract.Monad.{fact}
use contract.Running.{Carries, Running, real, tables, within}
use contract.Adequate.{Satisfies}
use contract.Lifetimes.{Lfts}
use denote.Exit.{Exit, unchanged, leaves, Seen}
use denote.RattleType.{Denots}
use denote.Signature.{Slot, types_at}
use denote.Triple.Statement.{Contract}
use denote.Triple.End.{Kepts, Outs}
use denote.Triple.Entry.{Args, Res}
use denote.Triple.Clauses.{Ended}
use denote.Triple.Spec.{Spec, Meets, exits, triple_of}
use denote.Triple.Adequate.{adequate}

-- ## Facts of the parameters
-- of a `&mut` what is seen of it at exit; of anything else nothing more
abbrev pub Lent : {D : Type 0} → Exit D → Type 1 → Type 1
Lent unchanged X = X
Lent (leaves L l S s r₀) X = S → X

abbrev pub lent : {D : Type 0} (e : Exit D) (X : Type 1) → Lent e X → Seen e → X
lent unchanged X f x = f
lent (leaves L l S s r₀) X f x = f x

module _ {n : ℕ} (κs : Lfts n) where
  -- a function of each parameter, and its value at them
  abbrev pub Of : (ss : List (Slot n)) → Kepts ss → Type 1 → Type 1
  Of [] ks X = X
  Of (s ∷ ss) ks X = (s.row κs).Denot → Lent ((s.row κs).exit ks.0) (Of ss ks.1 X)

  abbrev pub of : (ss : List (Slot n)) (ks : Kepts ss) (X : Type 1) → Of ss ks X → Denots (types_at ss κs) → Outs κs ss ks → X
  of [] ks X f a end = f
  of (s ∷ ss) ks X f a end = of ss ks.1 X (lent ((s.row κs).exit ks.0) (Of ss ks.1 X) (f a.0) end.0) a.1 end.1

-- as a contract joins its clauses; where there is none, nothing is said
abbrev pub facts : {M : Type 1} (𝓤 : Ura M) → List (Type 0) → SProp 𝓤
facts 𝓤 [] = emp 𝓤
facts 𝓤 (φ ∷ []) = fact 𝓤 φ
facts 𝓤 (φ ∷ ψ ∷ φs) = sep 𝓤 (fact 𝓤 φ) (facts 𝓤 (ψ ∷ φs))

-- ## The promise
module _ (T : Ended) where
  abbrev pub Asks : Type 1
  Asks = (κs : Lfts T.signature.lifetimes) → Args T.signature κs → List (Type 0)

  abbrev pub Says : Type 1
  Says = (κs : Lfts T.signature.lifetimes) → Of κs T.signature.params T.kept (Res T.signature κs → List (Type 0))

  module _ {M : Type 1} {𝓤 : Ura M} (𝓛 : Logic 𝓤) (asks : Asks) (says : Says) where
    abbrev pub whole : Spec 𝓤 T.signature
    whole κs a = record {
      ghost = Unit {0};
      requires = λ _. facts 𝓤 (asks κs a);
      ensures =
          λ _ r. exits 𝓛 T.signature T.kept κs a (λ end. facts 𝓤 (of κs T.signature.params T.kept (Res T.signature κs → List (Type 0)) (says κs) a end r));
    }

    abbrev pub triple : Contract 𝓤
    triple = triple_of 𝓛 T.signature whole

  abbrev pub PromiseWhere : Code → Callee → Asks → Says → Type 2
  PromiseWhere c k asks says =
      (M : Type 1) (𝓤 : Ura M) (𝓛 : Logic 𝓤) (𝓜 : Model 𝓤 𝓛.H) (𝓡 : Running 𝓤 𝓛.H 𝓜) → Wired 𝓡.env c
      → Meets 𝓛 T.signature (𝓡.run (𝓡.env k)) (whole 𝓛 asks says)

  abbrev pub Promise : Code → Callee → Says → Type 2
  Promise c k says = PromiseWhere c k (λ κs a. []) says

  -- of a call over a type: `given` is what the type must meet, where the call runs
  abbrev pub Given : Type 3
  Given = (M : Type 1) (𝓤 : Ura M) (𝓛 : Logic 𝓤) (𝓜 : Model 𝓤 𝓛.H) → Running 𝓤 𝓛.H 𝓜 → Type 2

  abbrev pub PromiseGiven : Given → Code → Callee → Asks → Says → Type 2
  PromiseGiven given c k asks says =
      (M : Type 1) (𝓤 : Ura M) (𝓛 : Logic 𝓤) (𝓜 : Model 𝓤 𝓛.H) (𝓡 : Running 𝓤 𝓛.H 𝓜) → Wired 𝓡.env c → given M 𝓤 𝓛 𝓜 𝓡
      → Meets 𝓛 T.signature (𝓡.run (𝓡.env k)) (whole 𝓛 asks says)

  module _ (c : Code) (k : Callee) (asks : Asks) (says : Says) where
    -- the run of the call k gives `done` with some fuel n, and in the memory that it leaves the promise holds; what stood
    -- beside, F, is untouched
    abbrev pub EndsWell : {M : Type 1} (𝓤 : Ura M) (𝓛 : Logic 𝓤) → Model 𝓤 𝓛.H → Env → (triple 𝓛 asks says).Ghost → Memory → SProp 𝓤 → Type 1
    EndsWell 𝓤 𝓛 𝓜 γ x σ F =
        ∥ ((n : ℕ) × (v : Val) × (σ' : Memory) × (step (γ k) n ((triple 𝓛 asks says).args x) σ ≡ done (v, σ')) × Satisfies 𝓤 𝓛.H 𝓜 σ' (sep 𝓤 ((triple 𝓛 asks says).post x v) F)) ∥₁

    -- the machine's own run, where a name stands for what γ says
    abbrev pub at : (M : Type 1) (𝓤 : Ura M) (𝓛 : Logic 𝓤) (𝓜 : Model 𝓤 𝓛.H) (𝓒 : Carries 𝓤 𝓛.H 𝓜 𝓛.H.turn) → Masks 𝓤 𝓛.H 𝓒.inner → Env → Running 𝓤 𝓛.H 𝓜
    at M 𝓤 𝓛 𝓜 𝓒 K γ = within 𝓤 𝓛.H 𝓜 (real 𝓤 𝓛.H 𝓜 𝓒 K) γ

    pub ends_given : (given : Given) → PromiseGiven given c k asks says
        → (M : Type 1) (𝓤 : Ura M) (𝓛 : Logic 𝓤) (𝓜 : Model 𝓤 𝓛.H) (𝓒 : Carries 𝓤 𝓛.H 𝓜 𝓛.H.turn) (K : Masks 𝓤 𝓛.H 𝓒.inner)
        → (γ : Env) → Wired γ c → given M 𝓤 𝓛 𝓜 (at M 𝓤 𝓛 𝓜 𝓒 K γ) → (x : (triple 𝓛 asks says).Ghost) (σ : Memory) (F : SProp 𝓤)
        → Satisfies 𝓤 𝓛.H 𝓜 σ (sep 𝓤 ((triple 𝓛 asks says).pre x) F) → EndsWell 𝓤 𝓛 𝓜 γ x σ F
    unfolding real
    ends_given given kept M 𝓤 𝓛 𝓜 𝓒 K γ wired g =
        let 𝓡 : Running 𝓤 𝓛.H 𝓜 = at M 𝓤 𝓛 𝓜 𝓒 K γ in
        adequate 𝓤 𝓛.H 𝓜 (tables 𝓤 𝓛.H 𝓜 𝓡 γ) (λ s o. o, tt) k (triple 𝓛 asks says) (kept M 𝓤 𝓛 𝓜 𝓡 wired g)

    -- in any memory where the parameters own what their types say (and, where something is asked, that holds)
    pub ends : PromiseWhere c k asks says
        → (M : Type 1) (𝓤 : Ura M) (𝓛 : Logic 𝓤) (𝓜 : Model 𝓤 𝓛.H) (𝓒 : Carries 𝓤 𝓛.H 𝓜 𝓛.H.turn) → Masks 𝓤 𝓛.H 𝓒.inner
        → (γ : Env) → Wired γ c → (x : (triple 𝓛 asks says).Ghost) (σ : Memory) (F : SProp 𝓤)
        → Satisfies 𝓤 𝓛.H 𝓜 σ (sep 𝓤 ((triple 𝓛 asks says).pre x) F) → EndsWell 𝓤 𝓛 𝓜 γ x σ F
    ends kept M 𝓤 𝓛 𝓜 𝓒 K γ wired =
        ends_given (λ M 𝓤 𝓛 𝓜 𝓡. Unit {2}) (λ M 𝓤 𝓛 𝓜 𝓡 w _. kept M 𝓤 𝓛 𝓜 𝓡 w) M 𝓤 𝓛 𝓜 𝓒 K γ wired tt

    -- in every program, given by what each symbol in it stands for, that has the code: at the kit's own model, where nothing
    -- is left to assume
    pub ends_in : PromiseWhere c k asks says → (look : Symbol → Entry) → HasT look true c
        → (x : (triple logic₀ asks says).Ghost) (σ : Memory) (F : SProp Closed.𝓤)
        → Satisfies Closed.𝓤 Closed.H model⁺ σ (sep Closed.𝓤 ((triple logic₀ asks says).pre x) F) → EndsWell Closed.𝓤 logic₀ model⁺ (tie_t look) x σ F
    ends_in kept look has =
        ends kept _ Closed.𝓤 logic₀ model⁺ turned masked (tie_t look)
        (has-wired_t look (tie_t look) (tie_t-follows look) (tie_t-threads look) c has)
