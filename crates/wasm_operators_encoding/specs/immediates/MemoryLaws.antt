-- Memory arguments are read lawfully, and exactly where bytes spell them.
use Rattle.std.proofs.Common.{◌≡◌, ℕ, List, [], ◌++◌, refl, sym, ap, ◌∙◌, subst, Bool, true, false, Option, Some, None}
use Rattle.wasm_types.specs.decoding.declared.Refusal.TheVariants.{Other}
use Rattle.wasm_types.specs.decoding.Decoder.{Grammar, IsLawful, Decides, Then}
use Rattle.wasm_types.specs.decoding.Laws.{lawful->>=, lawful-pure}
use Rattle.wasm_types.specs.decoding.ExactLaws.{Mapped, decides->>=, decides-same, decides-pure, decides-map}
use Rattle.wasm_types.specs.decoding.Leb.{IsUnsigned}
use Rattle.wasm_types.specs.decoding.LebLaws.{lawful-unsigned, decides-u32, decides-u64}
use Rattle.wasm_types.specs.settings.Features.{has, MultiMemory, Memory64}
use Rattle.wasm_operators_immediates.specs.declared.memory.MemArg.{MemArg}
use Rattle.wasm_operators_immediates.specs.declared.memory.MemArgOrdering.{MemArgOrdering}
use Rattle.wasm_operators_immediates.specs.declared.memory.MemArgOrdering.TheVariants.{Op, Rmw}
use Rattle.wasm_operators_immediates.specs.declared.memory.MemArgTarget.TheVariants.{Memory}
use Rattle.wasm_operators_immediates.specs.Kinds.{AccessOrdering, Plain, Atomic, ReadModifyWrite}
use Rattle.wasm_operators_immediates.specs.BlockLaws.{lawful-refuse_here, decides-refuse_here}
use Rattle.wasm_operators_encoding.specs.declared.immediates.memory_argument.Flags.{Flags}
use Rattle.wasm_operators_encoding.specs.immediates.Bytes.{ordering_by, SpelledOrdering}
use Rattle.wasm_operators_encoding.specs.immediates.ByteLaws.{lawful-ordering_by, decides-ordering_by}
use Rattle.wasm_operators_encoding.specs.immediates.MemoryArguments.{may_order, flags, named_memory, access_ordering, named_ordering, offset, argument}
use Rattle.wasm_operators_encoding.specs.immediates.MemoryArguments.{after_flags, memory_argument, SpelledFlags, NamedMemory, SpelledAccessOrdering}
use Rattle.wasm_operators_encoding.specs.immediates.MemoryArguments.{NamedOrdering, offset_bits, SpelledMemArg}
use Rattle.wasm_operators_encoding.specs.immediates.FlagLaws.{lawful-flags, decides-flags}

-- ---- lawful

pub lawful-named_memory : (named : Bool) → IsLawful (named_memory named)
unfolding named_memory
lawful-named_memory true = lawful-unsigned 4 4
lawful-named_memory false = lawful-pure 0

pub lawful-access_ordering : (access : AccessOrdering) → IsLawful (access_ordering access)
unfolding access_ordering
lawful-access_ordering Plain = lawful-refuse_here MemArgOrdering Other
lawful-access_ordering Atomic = lawful->>= (ordering_by 0x01) _ (lawful-ordering_by 0x01) (λ o. lawful-pure (Op o))
lawful-access_ordering ReadModifyWrite = lawful->>= (ordering_by 0x11) _ (lawful-ordering_by 0x11) (λ o. lawful-pure (Rmw o))

pub lawful-named_ordering : (access : AccessOrdering) (named : Bool) → IsLawful (named_ordering access named)
unfolding named_ordering
lawful-named_ordering access true = lawful->>= (access_ordering access) _ (lawful-access_ordering access) (λ o. lawful-pure (Some o))
lawful-named_ordering access false = lawful-pure None

pub lawful-offset : (wide : Bool) → IsLawful (offset wide)
unfolding offset
lawful-offset true = lawful-unsigned 9 1
lawful-offset false = lawful-unsigned 4 4

module _ (features : ℕ) (access : AccessOrdering) (natural : ℕ) where
  lawful-after_flags : (f : Flags) → IsLawful (after_flags features access natural f)
  unfolding after_flags
  lawful-after_flags f =
      lawful->>= (named_memory f.has_memory) _ (lawful-named_memory f.has_memory) (λ memory.
      lawful->>= (named_ordering access f.has_ordering) _ (lawful-named_ordering access f.has_ordering) (λ ordering.
      lawful->>= (offset (has Memory64 features)) _ (lawful-offset (has Memory64 features)) (λ x.
      lawful-pure (argument f.align natural memory ordering x))))

  pub lawful-memory_argument : IsLawful (memory_argument features access natural)
  unfolding memory_argument
  lawful-memory_argument = lawful->>= (flags (may_order features access) (has MultiMemory features)) _
      (lawful-flags (may_order features access) (has MultiMemory features)) lawful-after_flags

-- ---- exact

decides-named_memory : (named : Bool) → Decides (named_memory named) (NamedMemory named)
unfolding named_memory
decides-named_memory true = decides-u32
decides-named_memory false = decides-pure 0 (NamedMemory false) (refl, refl) (λ x text h. h)

op_from : (o : MemArgOrdering) (text : List ℕ) → SpelledAccessOrdering Atomic o text → Mapped Op (SpelledOrdering 0x01) o text
op_from (Op o) text h = (o, h, refl)
op_from (Rmw o) text h = absurd h

rmw_from : (o : MemArgOrdering) (text : List ℕ) → SpelledAccessOrdering ReadModifyWrite o text → Mapped Rmw (SpelledOrdering 0x11) o text
rmw_from (Op o) text h = absurd h
rmw_from (Rmw o) text h = (o, h, refl)

decides-access_ordering : (access : AccessOrdering) → Decides (access_ordering access) (SpelledAccessOrdering access)
unfolding access_ordering
decides-access_ordering Plain = decides-refuse_here Other (SpelledAccessOrdering Plain) (λ o text h. h)
decides-access_ordering Atomic = decides-same _ (Mapped Op (SpelledOrdering 0x01)) (SpelledAccessOrdering Atomic)
    (decides-map (ordering_by 0x01) Op (SpelledOrdering 0x01) (decides-ordering_by 0x01 refl refl))
    (λ o text h. subst (λ (k : MemArgOrdering). SpelledAccessOrdering Atomic k text) (sym h.2) h.1)
    op_from
decides-access_ordering ReadModifyWrite = decides-same _ (Mapped Rmw (SpelledOrdering 0x11)) (SpelledAccessOrdering ReadModifyWrite)
    (decides-map (ordering_by 0x11) Rmw (SpelledOrdering 0x11) (decides-ordering_by 0x11 refl refl))
    (λ o text h. subst (λ (k : MemArgOrdering). SpelledAccessOrdering ReadModifyWrite k text) (sym h.2) h.1)
    rmw_from

abbrev some : MemArgOrdering → Option MemArgOrdering
some o = Some o

named_from : (access : AccessOrdering) (o : Option MemArgOrdering) (text : List ℕ) → NamedOrdering access true o text → Mapped some (SpelledAccessOrdering access) o text
named_from access (Some o) text h = (o, h, refl)
named_from access None text h = absurd h

none_only : (access : AccessOrdering) (o : Option MemArgOrdering) (text : List ℕ) → NamedOrdering access false o text → (o ≡ None) × (text ≡ [])
none_only access (Some o) text h = absurd h
none_only access None text h = (refl, h)

decides-named_ordering : (access : AccessOrdering) (named : Bool) → Decides (named_ordering access named) (NamedOrdering access named)
unfolding named_ordering
decides-named_ordering access true = decides-same _ (Mapped some (SpelledAccessOrdering access)) (NamedOrdering access true)
    (decides-map (access_ordering access) some (SpelledAccessOrdering access) (decides-access_ordering access))
    (λ o text h. subst (λ (k : Option MemArgOrdering). NamedOrdering access true k text) (sym h.2) h.1)
    (named_from access)
decides-named_ordering access false = decides-pure None (NamedOrdering access false) refl (none_only access)

decides-offset : (wide : Bool) → Decides (offset wide) (IsUnsigned (offset_bits wide))
unfolding offset
decides-offset true = decides-u64
decides-offset false = decides-u32

module _ (features : ℕ) (access : AccessOrdering) (natural : ℕ) where
  abbrev order : Bool
  order = may_order features access

  abbrev name : Bool
  name = has MultiMemory features

  abbrev wide : Bool
  wide = has Memory64 features

  -- an offset behind flags, a memory and an ordering
  abbrev offset_behind : Flags → ℕ → Option MemArgOrdering → Grammar MemArg
  offset_behind f memory ordering = Mapped (argument f.align natural memory ordering) (IsUnsigned (offset_bits wide))

  abbrev ordering_behind : Flags → ℕ → Grammar MemArg
  ordering_behind f memory = Then (NamedOrdering access f.has_ordering) (offset_behind f memory)

  abbrev memory_behind : Flags → Grammar MemArg
  memory_behind f = Then (NamedMemory f.has_memory) (ordering_behind f)

  decides-after_flags : (f : Flags) → Decides (after_flags features access natural f) (memory_behind f)
  unfolding after_flags
  decides-after_flags f =
      decides->>= (named_memory f.has_memory) _ (NamedMemory f.has_memory) (ordering_behind f) (decides-named_memory f.has_memory) (λ memory.
      decides->>= (named_ordering access f.has_ordering) _ (NamedOrdering access f.has_ordering) (offset_behind f memory)
      (decides-named_ordering access f.has_ordering) (λ ordering.
      decides-map (offset wide) (argument f.align natural memory ordering) (IsUnsigned (offset_bits wide)) (decides-offset wide)))

  argument_to : (m : MemArg) (text : List ℕ) → Then (SpelledFlags order name) memory_behind m text → SpelledMemArg features access natural m text
  argument_to m text h =
      let a = h.second in
      let b = a.second in
      let c = b.second in
      subst (λ (k : MemArg). SpelledMemArg features access natural k text) (sym c.2) (record {
        flags = h.value;
        flags_text = h.front;
        memory_text = a.front;
        ordering_text = b.front;
        offset_text = b.back;
        flagged = h.first;
        align = refl;
        max_align = refl;
        target = refl;
        memory = a.first;
        ordering = b.first;
        offset = c.1;
        whole = h.whole ∙ ap (λ (z : List ℕ). h.front ++ z) (a.whole ∙ ap (λ (z : List ℕ). a.front ++ z) b.whole);
      })

  argument_is : (m : MemArg) (align : ℕ) → m.align ≡ align → m.max_align ≡ natural → m.target ≡ Memory → m ≡ argument align natural m.memory m.ordering m.offset
  argument_is m align a n t = λ i. record { align = a i; max_align = n i; offset = m.offset; memory = m.memory; ordering = m.ordering; target = t i }

  argument_from : (m : MemArg) (text : List ℕ) → SpelledMemArg features access natural m text → Then (SpelledFlags order name) memory_behind m text
  argument_from m text h = record {
    value = h.flags;
    front = h.flags_text;
    back = h.memory_text ++ (h.ordering_text ++ h.offset_text);
    first = h.flagged;
    second = record {
      value = m.memory;
      front = h.memory_text;
      back = h.ordering_text ++ h.offset_text;
      first = h.memory;
      second = record {
        value = m.ordering;
        front = h.ordering_text;
        back = h.offset_text;
        first = h.ordering;
        second = (m.offset, h.offset, argument_is m h.flags.align h.align h.max_align h.target);
        whole = refl;
      };
      whole = refl;
    };
    whole = h.whole;
  }

  pub decides-memory_argument : Decides (memory_argument features access natural) (SpelledMemArg features access natural)
  unfolding memory_argument
  decides-memory_argument = decides-same _ (Then (SpelledFlags order name) memory_behind) (SpelledMemArg features access natural)
      (decides->>= (flags order name) (after_flags features access natural) (SpelledFlags order name) memory_behind (decides-flags order name) decides-after_flags)
      argument_to argument_from
