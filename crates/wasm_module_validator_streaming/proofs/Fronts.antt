-- What is told of the front of bytes, by what readers of its parts answer.
use Rattle.std.proofs.Common.{◌≡◌, ◌∙◌, ◌<◌, ◌≤◌, ◌+◌, ◌-◌, ℕ, List, length, take, drop, Option, Some, None, refl, sym, ap, subst, arith}
use Rattle.std.proofs.Math.Seq.{take-length}
use Rattle.wasm_types.specs.decoding.Decoder.{State, Outcome, Done, Short, Fault, byte, bytes}
use Rattle.wasm_types.specs.decoding.ErrorText.{hint_of}
use Rattle.wasm_types.specs.decoding.ErrorValue.{ErrorValue}
use Rattle.wasm_types.specs.decoding.ExactLaws.{value_is}
use Rattle.wasm_types.specs.decoding.Laws.{bytes-enough}
use Rattle.wasm_types.specs.decoding.Leb.{u32}
use Rattle.wasm_types.specs.decoding.Numbers.{IsRefused}
use Rattle.wasm_types.specs.decoding.Text.{name}
use Rattle.wasm_types.specs.decoding.declared.error.ErrorKind.{ErrorKind}
use Rattle.wasm_types.specs.decoding.declared.error.ErrorKind.TheVariants as kinds
use Rattle.wasm_types.specs.decoding.declared.Refusal.TheVariants as refusals
use Rattle.wasm_types.specs.reader.Reading.{FailsAt, Fails, IsNotMemory}
use Rattle.wasm_module_validator_streaming.specs.Passing.{contents_at, IsHead, IsFront}
use Rattle.wasm_module_validator_streaming.specs.laws.Passing.{no_front, other_id, no_count, no_missing, no_name, bad_name}
use Rattle.wasm_module_validator_streaming.specs.declared.customs.Front.TheVariants as fronts

-- what failed gave no value
pub not_done : {A : Type 0} (k : ErrorKind) (place : ℕ) (o : Outcome A) (x : A) (t : State) → IsNotMemory k → FailsAt k place o → o ≡ Done x t → ⊥
not_done (kinds.EndOfData h) place o x t m f e = let no = sym f ∙ e in cc
not_done (kinds.MissingFeature b) place o x t m f e = let no = sym f ∙ e in cc
not_done kinds.OutOfMemory place o x t m f e = m
not_done kinds.Failed place o x t m f e = f
not_done kinds.Other place o x t m f e = let no = sym f ∙ e in cc

module _ (s r : State) (here : r ≡ s) where
  -- no byte
  pub front_empty : IsRefused (byte r) → IsFront s (fronts.Cut 2)
  front_empty none = (omega arith, λ later missing place few h. no_front s (subst (λ (t : State). IsRefused (byte t)) here none) later missing place few h)

  module _ (id : ℕ) (tagged : State) (found : byte r ≡ Done id tagged) where
    tag : byte s ≡ Done id tagged
    tag = ap byte (sym here) ∙ found

    -- another section
    pub front_other : (id ≡ 0 → ⊥) → IsFront s fronts.Other
    front_other other = other_id s tagged id tag other

    -- a size that is not all there
    pub front_no_size : IsRefused (u32 tagged) → IsFront s (fronts.Cut 1)
    front_no_size none = (omega arith, λ later missing place few h. no_count s tagged id tag none later missing place few h)

    module _ (size : ℕ) (sized : State) (count : u32 tagged ≡ Done size sized) where
      -- a section that is all there
      pub front_all : size ≤ length sized.rest → IsFront s fronts.Other
      front_all all = no_missing s tagged id tag size sized count all

      module _ (there : ℕ) (content : List ℕ) (after part : State) (all : there ≡ length sized.rest) (taken : bytes there sized ≡ Done content after)
          (is : part ≡ record { rest = content; place = sized.place; settings = s.settings; start = sized.place }) where
        content_is : content ≡ sized.rest
        content_is =
            sym (value_is (take there sized.rest) content (record { rest = drop there sized.rest; place = sized.place + there; settings = sized.settings; start = sized.start }) after
            (sym (bytes-enough there sized (omega (arith, all))) ∙ taken)) ∙ ap (λ (n : ℕ). take n sized.rest) all ∙ take-length sized.rest

        part_is : part ≡ contents_at s sized
        part_is = is ∙ ap (λ (l : List ℕ). record { rest = l; place = sized.place; settings = s.settings; start = sized.place }) content_is

        named_is : name part.settings.limits.string_bytes part ≡ name s.settings.limits.string_bytes (contents_at s sized)
        named_is = ap (λ (t : State). name t.settings.limits.string_bytes t) part_is

        -- the name is there
        pub front_head : id ≡ 0 → there < size → (text : List ℕ) (named : State) → name part.settings.limits.string_bytes part ≡ Done text named
            → (missing : ℕ) → missing ≡ size - there → (place : ℕ) → place ≡ sized.place → IsHead s missing place
        front_head custom fewer text named begins missing left place is_there = record {
          size = size;
          text = text;
          tagged = tagged;
          sized = sized;
          named = named;
          tag = tag ∙ ap (λ (i : ℕ). Done i tagged) custom;
          count = count;
          begins = sym named_is ∙ begins;
          some = omega (arith, left, fewer);
          cut = omega (arith, left, fewer, all);
          there = is_there;
        }

        -- it is not all there, or it is none
        pub front_short : (e : ErrorValue) (k : ℕ) → Fails e (name part.settings.limits.string_bytes part) → hint_of e.kind ≡ Some k → IsFront s (fronts.Cut k)
        front_short e k f h = go e.kind f h
          where
            short : (p g : ℕ) → name part.settings.limits.string_bytes part ≡ Short p g → g ≡ k → IsFront s (fronts.Cut k)
            short p g f same = subst (λ (n : ℕ). IsFront s (fronts.Cut n)) same (no_name s tagged id tag size sized count p g (sym named_is ∙ f))

            go : (kind : ErrorKind) → FailsAt kind e.offset (name part.settings.limits.string_bytes part) → hint_of kind ≡ Some k → IsFront s (fronts.Cut k)
            go (kinds.EndOfData g) f h = short e.offset g f cc
            go (kinds.MissingFeature x) f h = absurd cc
            go kinds.OutOfMemory f h = absurd cc
            go kinds.Failed f h = absurd cc
            go kinds.Other f h = absurd cc

        pub front_bad : (e : ErrorValue) → Fails e (name part.settings.limits.string_bytes part) → IsNotMemory e.kind → hint_of e.kind ≡ None → IsFront s fronts.Other
        front_bad e f m h = go e.kind f m h
          where
            go : (kind : ErrorKind) → FailsAt kind e.offset (name part.settings.limits.string_bytes part) → IsNotMemory kind → hint_of kind ≡ None → IsFront s fronts.Other
            go (kinds.EndOfData g) f m h = absurd cc
            go (kinds.MissingFeature x) f m h = bad_name s tagged id tag size sized count (refusals.MissingFeature x.0) e.offset (sym named_is ∙ f)
            go kinds.OutOfMemory f m h = absurd m
            go kinds.Failed f m h = absurd f
            go kinds.Other f m h = bad_name s tagged id tag size sized count refusals.Other e.offset (sym named_is ∙ f)

      -- as many bytes as there are can be read
      pub front_unread : (there : ℕ) → there ≡ length sized.rest → (e : ErrorValue) → IsNotMemory e.kind → Fails e (bytes there sized) → IsFront s fronts.Other
      front_unread there all e m f = absurd (not_done e.kind e.offset (bytes there sized) _ _ m f (bytes-enough there sized (omega (arith, all))))
