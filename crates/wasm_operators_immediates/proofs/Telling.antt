-- What a derived `==` tells: that two values are one, or that their trees are.
use Rattle.std.proofs.Common.{◌≡◌, Bool, true, false, ◌&&◌, List, [], ◌∷◌, Option, Some, None, refl, sym, ap, subst, inl, inr, true≢false}
use Rattle.std.specs.Option.{option_eq}
use lib.Pointwise.{pointwise}
use denote.Struct.Field.{Field}
use denote.Enum.Declared.{Choice, Record, Declared, values_one}
use denote.Enum.Compared.{Each, by}
use denote.Enum.Bare.{Bare, sameb, same_true, true_same}

-- a test holds of a value and itself alone
pub record Identity {A : Type 0} (test : A → A → Bool) : Type 0 where
  pub sound : (x y : A) → test x y ≡ true → x ≡ y
  pub itself : (x : A) → test x x ≡ true

-- a test holds exactly where two trees are equal
pub record Tells {A B : Type 0} (test : A → A → Bool) (tree : A → B) : Type 0 where
  pub sound : (x y : A) → test x y ≡ true → tree x ≡ tree y
  pub complete : (x y : A) → tree x ≡ tree y → test x y ≡ true

pub complete : {A : Type 0} (test : A → A → Bool) → Identity test → (x y : A) → x ≡ y → test x y ≡ true
complete test i x y e = subst (λ z. test x z ≡ true) e (i.itself x)

pub first : (s t : Bool) → (s && t) ≡ true → s ≡ true
first true t h = refl
first false t h = h

pub second : (s t : Bool) → (s && t) ≡ true → t ≡ true
second true t h = h
second false t h = absurd (true≢false (sym h))

pub both : (s t : Bool) → s ≡ true → t ≡ true → (s && t) ≡ true
both s t g h = λ i. g i && h i

-- ---- fields of a variant

pub none : Identity {A = Unit {0}} (λ x y. true)
none = record { sound = λ x y h. refl; itself = λ x. refl }

pub one : {A : Type 0} {test : A → A → Bool} → Identity test → Identity {A = A × Unit {0}} (λ x y. test x.0 y.0)
one p = record { sound = λ x y h i. (p.sound x.0 y.0 h i, tt); itself = λ x. p.itself x.0 }

-- a field, and those behind it
pub also : {A B : Type 0} {test : A → A → Bool} {next : B → B → Bool} → Identity test → Identity next → Identity {A = A × B} (λ x y. test x.0 y.0 && next x.1 y.1)
also {A} {B} {test} {next} p q = record {
  sound = λ x y h i. (p.sound x.0 y.0 (first (test x.0 y.0) (next x.1 y.1) h) i, q.sound x.1 y.1 (second (test x.0 y.0) (next x.1 y.1) h) i);
  itself = λ x. both (test x.0 x.0) (next x.1 x.1) (p.itself x.0) (q.itself x.1);
}

pub two : {A B : Type 0} {test : A → A → Bool} {next : B → B → Bool} → Identity test → Identity next → Identity {A = A × (B × Unit {0})} (λ x y. test x.0 y.0 && next x.1.0 y.1.0)
two p q = also p (one q)

pub three : {A B C : Type 0} {test : A → A → Bool} {next : B → B → Bool} {last : C → C → Bool} → Identity test → Identity next → Identity last →
    Identity {A = A × (B × (C × Unit {0}))} (λ x y. test x.0 y.0 && (next x.1.0 y.1.0 && last x.1.1.0 y.1.1.0))
three p q r = also p (two q r)

-- ---- enums

infixr 10 ◌&◌
-- the test of a variant's fields, and those of the variants behind it
abbrev pub ◌&◌ : {A B : Type 0} → A → B → A × B
a & b = (a, b)

-- the test of each variant's fields
abbrev pub Identities : (Fss : List (List Field)) → Each Bool Fss → Type 0
Identities [] each = Unit {0}
Identities (Fs ∷ Fss) each = Identity each.0 × Identities Fss each.1

by_sound : (Fss : List (List Field)) (each : Each Bool Fss) → Identities Fss each → (c d : Choice Fss) → by false false Fss each c d ≡ true → c ≡ d
by_sound [] each all c d h = absurd c
by_sound (Fs ∷ Fss) each all (inl x) (inl y) h = ap inl (all.0.sound x y h)
by_sound (Fs ∷ Fss) each all (inl x) (inr y) h = absurd (true≢false (sym h))
by_sound (Fs ∷ Fss) each all (inr x) (inl y) h = absurd (true≢false (sym h))
by_sound (Fs ∷ Fss) each all (inr x) (inr y) h = ap inr (by_sound Fss each.1 all.1 x y h)

by_itself : (Fss : List (List Field)) (each : Each Bool Fss) → Identities Fss each → (c : Choice Fss) → by false false Fss each c c ≡ true
by_itself [] each all c = absurd c
by_itself (Fs ∷ Fss) each all (inl x) = all.0.itself x
by_itself (Fs ∷ Fss) each all (inr x) = by_itself Fss each.1 all.1 x

-- of an enum with fields
pub variants : (N : Record) (each : Each Bool N.parts) → Identities N.parts each → Identity {A = N.D} (λ x y. by false false N.parts each (N.as_values x) (N.as_values y))
variants N each all = record {
  sound = λ x y h. values_one N x y (by_sound N.parts each all (N.as_values x) (N.as_values y) h);
  itself = λ x. by_itself N.parts each all (N.as_values x);
}

-- of an enum without
pub tags : (D : Declared) → Bare D.parts → Identity {A = D.D} (sameb D)
tags D bare = record { sound = same_true D bare; itself = λ x. true_same D x x refl }

-- ---- lists and options

module _ {A : Type 0} {test : A → A → Bool} (p : Identity test) where
  list_sound : (xs ys : List A) → pointwise test xs ys ≡ true → xs ≡ ys
  list_sound [] [] h = refl
  list_sound [] (y ∷ ys) h = absurd (true≢false (sym h))
  list_sound (x ∷ xs) [] h = absurd (true≢false (sym h))
  list_sound (x ∷ xs) (y ∷ ys) h =
      let e = p.sound x y (first (test x y) (pointwise test xs ys) h) in
      let f = list_sound xs ys (second (test x y) (pointwise test xs ys) h) in
      λ i. e i ∷ f i

  list_itself : (xs : List A) → pointwise test xs xs ≡ true
  list_itself [] = refl
  list_itself (x ∷ xs) = both (test x x) (pointwise test xs xs) (p.itself x) (list_itself xs)

  pub lists : Identity (pointwise test)
  lists = record { sound = list_sound; itself = list_itself }

  option_sound : (x y : Option A) → option_eq test x y ≡ true → x ≡ y
  option_sound None None h = refl
  option_sound None (Some b) h = absurd (true≢false (sym h))
  option_sound (Some a) None h = absurd (true≢false (sym h))
  option_sound (Some a) (Some b) h = ap Some (p.sound a b h)

  option_itself : (x : Option A) → option_eq test x x ≡ true
  option_itself None = refl
  option_itself (Some a) = p.itself a

  pub options : Identity (option_eq test)
  options = record { sound = option_sound; itself = option_itself }
