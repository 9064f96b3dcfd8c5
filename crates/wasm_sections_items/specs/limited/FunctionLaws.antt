-- Function types are read lawfully, and exactly where the bytes spell a group of one.
use Rattle.std.proofs.Common.{◌≡◌, ℕ, List, [], ◌∷◌, ◌++◌, refl, sym, ap, ◌∙◌, subst, arith, Bool, true, false, Option, Some, None, Result, Ok, Err, inl, inr}
use Rattle.std.proofs.lemmas.List.{append-nil}
use Rattle.wasm_types.specs.decoding.declared.Refusal.TheVariants as refusals
use Rattle.wasm_types.specs.decoding.Decoder.{State, Outcome, Done, Fault, Grammar, continue_with, ◌>>=◌, IsLawful, Decides, Then}
use Rattle.wasm_types.specs.decoding.Laws.{lawful->>=, lawful-pure}
use Rattle.wasm_types.specs.decoding.ExactLaws.{decides->>=, decides-same, decides-pure}
use Rattle.wasm_types.specs.decoding.ListLaws.{lawful-from_place, decides-from_place, lawful-refuse_at, decides-refuse_at}
use Rattle.wasm_types.specs.decoding.declared.error.ErrorKind.{ErrorKind}
use Rattle.wasm_types.specs.decoding.declared.error.ErrorKind.TheVariants.{EndOfData, MissingFeature, OutOfMemory, Failed, Other}
use Rattle.wasm_types.specs.decoding.ErrorValue.{ErrorValue}
use Rattle.wasm_types.specs.settings.Settings.{Settings}
use Rattle.wasm_types.specs.reader.Reading.{FailsAt, Fails}
use Rattle.wasm_types.specs.trees.declared.index.UnpackedIndex.{UnpackedIndex}
use Rattle.wasm_types.specs.fields.Signatures.{Signature}
use Rattle.wasm_types.specs.fields.declared.func.FuncType.{FuncType}
use Rattle.wasm_types.specs.declared.rec_group.RecGroup.{RecGroup}
use Rattle.wasm_types.specs.SpellsTypes.{InnerValue, function, array_of, struct_of, continuation, CompositeValue, SubValue, sub_with, GroupValue, group_value, SpelledGroup}
use Rattle.wasm_types.specs.DecodeTypes.{rec_group}
use Rattle.wasm_types.specs.TypeLaws.{lawful-rec_group, decides-rec_group}
use Rattle.wasm_sections_items.specs.limited.Functions.{alone, group_of, SpelledAlone, inner_function, composite_function, sub_function, only_function, or_refuse, function_alone}
use Rattle.wasm_sections_items.specs.limited.Walking.{Walk, NextIn}
use Rattle.wasm_sections_items.specs.limited.Runs.{plain, with_offset}

-- ---- only such groups have a function type

some_is : (f g : Signature) → Some f ≡ Some g → f ≡ g
some_is f g e = cc

inner_is : (x : InnerValue) (f : Signature) → inner_function x ≡ Some f → x ≡ function f
inner_is (function g) f e = ap (λ (v : Signature). function v) (some_is g f e)
inner_is (array_of x) f e = absurd cc
inner_is (struct_of xs) f e = absurd cc
inner_is (continuation i) f e = absurd cc

abbrev composite_with : InnerValue → Bool → Option UnpackedIndex → Option UnpackedIndex → CompositeValue
composite_with x s d w = record { inner = x; shared = s; descriptor = d; describes = w }

composite_is : (x : InnerValue) (s : Bool) (d w : Option UnpackedIndex) (f : Signature) → composite_function (composite_with x s d w) ≡ Some f → composite_with x s d w ≡ alone f
composite_is x true d w f e = absurd cc
composite_is x false (Some i) w f e = absurd cc
composite_is x false None (Some i) f e = absurd cc
composite_is x false None None f e = ap (λ (v : InnerValue). composite_with v false None None) (inner_is x f e)

sub_parts : (b : Bool) (is : List UnpackedIndex) (c : CompositeValue) (f : Signature) → sub_function (sub_with b is c) ≡ Some f → sub_with b is c ≡ sub_with true [] (alone f)
sub_parts false is c f e = absurd cc
sub_parts true (i ∷ is) c f e = absurd cc
sub_parts true [] c f e = ap (λ (v : CompositeValue). sub_with true [] v) (composite_is c.inner c.shared c.descriptor c.describes f e)

sub_is : (x : SubValue) (f : Signature) → sub_function x ≡ Some f → x ≡ sub_with true [] (alone f)
sub_is x f e = sub_parts x.is_final x.supertypes x.composite f e

types_are : (xs : List SubValue) (f : Signature) → only_function xs ≡ Some f → xs ≡ sub_with true [] (alone f) ∷ []
types_are [] f e = absurd cc
types_are (x ∷ []) f e = ap (λ (v : SubValue). v ∷ []) (sub_is x f e)
types_are (x ∷ (y ∷ xs)) f e = absurd cc

-- ---- lawful

lawful-or_refuse : (p : ℕ) (o : Option Signature) → IsLawful (or_refuse p o)
lawful-or_refuse p (Some f) = lawful-pure f
lawful-or_refuse p None = lawful-refuse_at refusals.Other p

pub lawful-function_alone : (z : Settings) → IsLawful (function_alone z)
unfolding function_alone
lawful-function_alone z = lawful-from_place (λ p. rec_group z >>= λ g. or_refuse p (only_function g.types))
    (λ p. lawful->>= (rec_group z) (λ g. or_refuse p (only_function g.types)) (lawful-rec_group z) (λ g. lawful-or_refuse p (only_function g.types)))

-- ---- exact

-- this function type, of no bytes
abbrev Given : Option Signature → Grammar Signature
Given o f text = (o ≡ Some f) × (text ≡ [])

decides-or_refuse : (p : ℕ) (o : Option Signature) → Decides (or_refuse p o) (Given o)
decides-or_refuse p (Some f) = decides-pure f (Given (Some f)) (refl, refl) (λ y text h. (sym (some_is f y h.0), h.1))
decides-or_refuse p None = decides-refuse_at refusals.Other p (Given None) (λ y text h. let e = h.0 in cc)

module _ (z : Settings) where
  abbrev Parts : Grammar Signature
  Parts = Then (SpelledGroup z) (λ g. Given (only_function g.types))

  group_is : (g : GroupValue) (f : Signature) → only_function g.types ≡ Some f → g ≡ group_of g.is_explicit f
  group_is g f e = λ i. record { is_explicit = g.is_explicit; types = types_are g.types f e i }

  alone_to : (f : Signature) (text : List ℕ) → Parts f text → SpelledAlone z f text
  alone_to f text h =
      let front : text ≡ h.front = h.whole ∙ ap (λ (b : List ℕ). h.front ++ b) h.second.1 ∙ append-nil h.front in
      let spelled : SpelledGroup z h.value text = subst (λ (b : List ℕ). SpelledGroup z h.value b) (sym front) h.first in
      (h.value.is_explicit, subst (λ (g : GroupValue). SpelledGroup z g text) (group_is h.value f h.second.0) spelled)

  alone_from : (f : Signature) (text : List ℕ) → SpelledAlone z f text → Parts f text
  alone_from f text h = record { value = group_of h.0 f; front = text; back = []; first = h.1; second = (refl, refl); whole = sym (append-nil text) }

  pub decides-function_alone : Decides (function_alone z) (SpelledAlone z)
  unfolding function_alone
  decides-function_alone = decides-from_place (λ p. rec_group z >>= λ g. or_refuse p (only_function g.types)) (SpelledAlone z)
      (λ p. decides-same _ Parts (SpelledAlone z)
      (decides->>= (rec_group z) (λ g. or_refuse p (only_function g.types)) (SpelledGroup z) (λ g. Given (only_function g.types)) (decides-rec_group z)
      (λ g. decides-or_refuse p (only_function g.types)))
      alone_to alone_from)

-- ---- what the reading of a group tells

-- the function type that a group is
pub alone_read : (z : Settings) (b c : State) (g : GroupValue) (f : Signature) → rec_group z b ≡ Done g c → only_function g.types ≡ Some f → function_alone z b ≡ Done f c
unfolding function_alone
alone_read z b c g f read e = ap (λ (o : Outcome GroupValue). continue_with o (λ x. or_refuse b.place (only_function x.types))) read ∙ ap (λ (o : Option Signature). or_refuse b.place o c) e

-- a group that is none
pub alone_refused : (z : Settings) (b c : State) (g : GroupValue) → rec_group z b ≡ Done g c → only_function g.types ≡ None → function_alone z b ≡ Fault refusals.Other b.place
unfolding function_alone
alone_refused z b c g read e = ap (λ (o : Outcome GroupValue). continue_with o (λ x. or_refuse b.place (only_function x.types))) read ∙ ap (λ (o : Option Signature). or_refuse b.place o c) e

-- no group
pub group_fails : (z : Settings) (b : State) (k : ErrorKind) (p : ℕ) → FailsAt k p (rec_group z b) → FailsAt k p (function_alone z b)
unfolding function_alone
group_fails z b (EndOfData h) p e = rw e refl
group_fails z b (MissingFeature m) p e = rw e refl
group_fails z b OutOfMemory p e = tt
group_fails z b Failed p e = e
group_fails z b Other p e = rw e refl

-- ---- a step over the groups as a step over the function types

module _ (z : Settings) (w v : Walk) where
  -- of groups with their offsets, and of function types
  abbrev OfGroups : Option (Result (ℕ × RecGroup) ErrorValue) → Walk → Type 0
  OfGroups r u = NextIn (with_offset group_value rec_group z) (λ b e. Fails e (rec_group z b)) w r u

  abbrev OfFunctions : Option (Result FuncType ErrorValue) → Walk → Type 0
  OfFunctions r u = NextIn (plain (λ f. f) function_alone z) (λ b e. Fails e (function_alone z b)) w r u

  pub step_fails : (e : ErrorValue) → OfGroups (Some (Err e)) v → OfFunctions (Some (Err e)) v
  step_fails e (o, p, inl t) = (o, p, inl t)
  step_fails e (o, p, inr t) = (o, p, inr (t.0, group_fails z w.reader e.kind e.offset t.1))

  pub step_reads : (x : ℕ × RecGroup) (f : FuncType) → OfGroups (Some (Ok x)) v → only_function (group_value x.1).types ≡ Some f → OfFunctions (Some (Ok f)) v
  step_reads x f (o, p, l, r) e = (o, p, l, alone_read z w.reader v.reader (group_value x.1) f r.1 e)

  -- behind a group that is no function type
  abbrev ended : Walk
  ended = record { left = v.left; reader = v.reader; over = true }

  pub step_refuses : (x : ℕ × RecGroup) (e : ErrorValue) → OfGroups (Some (Ok x)) v → only_function (group_value x.1).types ≡ None → e.kind ≡ Other → e.offset ≡ x.0 → OfFunctions (Some (Err e)) ended
  step_refuses x e (o, p, l, r) none kind offset =
      let here : FailsAt Other w.reader.place (function_alone z w.reader) = alone_refused z w.reader v.reader (group_value x.1) r.1 none in
      let there : FailsAt Other e.offset (function_alone z w.reader) = subst (λ (q : ℕ). FailsAt Other q (function_alone z w.reader)) (sym (offset ∙ r.0)) here in
      (o, refl, inr (omega (arith, l), subst (λ (k : ErrorKind). FailsAt k e.offset (function_alone z w.reader)) (sym kind) there))
