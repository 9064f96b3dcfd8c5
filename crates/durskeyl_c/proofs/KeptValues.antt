-- What the place of types owns: where they are there, what its box owned, and at null nothing. Assumes `Logic`.
use Rattle.std.proofs.Common.{◌≡◌, List, [], ◌∷◌, Option, Some, None, refl}
use seplogic.Ra.Ura.{Ura}
use mir.Val.{Val}
use types.Logic.{Logic}
use types.Kit.{Item, Goal, Step, step, ‵, ◌$◌, move, fjoin, fpack, rewrite, feq_i}
use denote.RattleType.{RattleType, Valss}
use denote.Builtin.{RawPtr}
use denote.RawPtr.{null_ptr, ptr_val}
use denote.Steps.{nothing}
use denote.Struct.Struct.{within}
use denote.Struct.Owning.{shape}
use Rattle.std.specs.contracts.alloc.Global as heap
use Rattle.std.proofs.alloc.Global.TheLaws as heap_laws
use Rattle.std.specs.contracts.impls.GlobalAllocator.TheImpl.{ghosts}
use Rattle.wasm_module_validator.specs.contracts.types.Types as held
use Rattle.durskeyl_c.specs.contracts.kept.KeptPlace as place
use Rattle.durskeyl_c.proofs.LooseValues.{both, Loose}

abbrev pub R : RattleType
R = held.the_row

abbrev pub Z : RattleType
Z = heap.the_row

abbrev pub L : denote.Param.Laws.Laws Z
L = heap_laws.the_row_laws

abbrev pub Whole : RattleType
Whole = Loose R Z L ghosts

abbrev pub Place : RattleType
Place = place.the_row

-- where one is there, it is this
pub there : {X : Type 0} → (o : Option X) → ¬ (o ≡ None) → (x : X) × (o ≡ Some x)
there None none = absurd (none refl)
there (Some x) none = (x, refl)

module _ {M : Type 1} {𝓤 : Ura M} {𝓛 : Logic 𝓤} {K : Type 0} {Γ : List (Item 𝓤)} {G : Goal 𝓤 𝓛.H} where
  -- a place with types is a box, taken apart
  pub place_loose : K → (d : Place.Denot) (x : R.Denot) → d.value ≡ Some x → (vs : List Val)
      → Step K 𝓛 (‵ (Whole.own_val (record { at = d.at; alloc = d.alloc; value = x }) vs) ∷ Γ) G (‵ (Place.own_val d vs) ∷ Γ) G
  place_loose t d x e vs = step (λ s. rewrite t 0 (λ (o : Option R.Denot). ‵ (Place.own_val (record { at = d.at; alloc = d.alloc; value = o }) vs)) e refl $ s)

  -- at null none are there
  pub place_null : K → (h : Val) (a : Z.Denot)
      → Step K 𝓛 (‵ (Place.own_val (record { at = null_ptr; alloc = a; value = None }) (both (ptr_val null_ptr) h ∷ [])) ∷ Γ) G (‵ (Z.own_val a (h ∷ [])) ∷ Γ) G
  place_null t h a = step (λ s. let v : Val = both (ptr_val null_ptr) h in
      nothing t $ nothing t $ move t (2 ∷ 0 ∷ []) $ fjoin t $ feq_i t (List Val) (ptr_val null_ptr ∷ []) (ptr_val null_ptr ∷ []) refl $ fjoin t $ feq_i t (List Val) (v ∷ []) (v ∷ []) refl $ fjoin t $
      fpack t (Valss (RawPtr ∷ Z ∷ [])) (within (shape place.the_type) (null_ptr, (((tt, tt), tt), tt)) (v ∷ [])) (ptr_val null_ptr ∷ [], (h ∷ [], tt)) $ fjoin t $ s)
