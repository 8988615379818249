-- How a contract determines an answer: each of its clauses says what one part of the answer is.
-- Assumes nothing.
use mathlib.Core.Path.{◌≡◌, sym, ◌∙◌}
use contract.Lifetimes.{Lfts}
use denote.Triple.Entry.{Args, Res}
use denote.Triple.Clauses.{Ended, Lasts}
use Rattle.determined.specs.Determined.{InputAsked, Learnt, AnswerTo, Determined}
use Rattle.determined.specs.Machines.{Is}

-- two things are equal where both equal a third
pub agree {ℓ} : {A : Type ℓ} {a b c : A} → a ≡ c → b ≡ c → a ≡ b
agree p q = p ∙ sym q

module _ {e : Ended} where
  -- two answers are equal where their parts are
  pub same : {κs : Lfts e.signature.lifetimes} {a : Args e.signature κs} {x y : AnswerTo e κs a} →
      x.result ≡ y.result → x.left ≡ y.left → x ≡ y
  same p q i = record { result = p i; left = q i }

  -- a contract of one clause, that says what the result is; nothing is lent for a change, so there is one way to leave it
  pub plainly : {f : (κs : Lfts e.signature.lifetimes) → Args e.signature κs → Res e.signature κs} →
      ((κs : Lfts e.signature.lifetimes) (a : Args e.signature κs) (u v : Lasts e κs a) → u ≡ v) →
      Determined e (λ κs a. Unit {0}) (λ κs a r s. r ≡ f κs a)
  plainly nothing = record { taken = λ κs a. tt; equal = λ κs a x y p q. same (agree p q) (nothing κs a x.left y.left) }

  -- a contract that allows one machine's answers alone
  pub of_machine : {asked : InputAsked e} {learnt : Learnt e} {f : (κs : Lfts e.signature.lifetimes) (a : Args e.signature κs) → AnswerTo e κs a} →
      ((κs : Lfts e.signature.lifetimes) (a : Args e.signature κs) → asked κs a) → Is e learnt f → Determined e asked learnt
  of_machine t h = record { taken = t; equal = λ κs a x y p q. h κs a x p ∙ sym (h κs a y q) }
