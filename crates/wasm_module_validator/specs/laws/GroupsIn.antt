-- A group of types that a parser gives of bytes is one of the module that these are, if they are one that is valid outside its bodies.
use Rattle.std.proofs.Common.{◌≡◌, ◌∙◌, ◌+◌, ◌<◌, ◌≤◌, ◌^◌, ℕ, zero, suc, List, [], ◌∷◌, ◌++◌, length, refl, sym, ap, subst, arith}
use Rattle.std.proofs.lemmas.List.{length-append}
use Rattle.wasm_types.specs.decoding.Decoder.{State, Outcome, Done, Many}
use Rattle.wasm_types.specs.decoding.ExactLaws.{value_is, state_is}
use Rattle.wasm_types.specs.decoding.Leb.{u32, IsListed}
use Rattle.wasm_types.specs.decoding.LebLaws.{decides-u32}
use Rattle.wasm_types.specs.settings.Settings.{Settings}
use Rattle.wasm_types.specs.trees.Trees.{GroupTree, TypeTree}
use Rattle.wasm_types.specs.trees.ValidGroup.{Written, types_of, types_from, written_tree}
use Rattle.wasm_types.specs.DecodeTypes.{rec_group}
use Rattle.wasm_types.specs.SpellsTypes.{GroupValue, group_value}
use Rattle.wasm_types.specs.TypeLaws.{decides-rec_group}
use Rattle.wasm_types.specs.declared.rec_group.RecGroup.{RecGroup}
use Rattle.wasm_sections_items.specs.declared.limited.section.SectionLimited.{SectionLimited}
use Rattle.wasm_sections_parser.specs.declared.frame.Frame.{Frame}
use Rattle.wasm_sections_parser.specs.declared.frame.Frame.TheVariants as frames
use Rattle.wasm_sections_parser.specs.Parsers.{Parser}
use Rattle.wasm_sections_parser.specs.Parsing.{shape_of}
use Rattle.wasm_sections_parser.specs.Steps.{Shape, the_end}
use Rattle.wasm_sections_parser.specs.runs.calls.Calls.{Calls, shapes_of}
use Rattle.wasm_sections.specs.declared.payload.Payload.{Payload}
use Rattle.wasm_sections.specs.declared.payload.Payload.TheVariants as payloads
use Rattle.wasm_sections.specs.Payloads.{Counts, IsPayloadOf}
use Rattle.wasm_module_validator_rules.specs.Accepts.{AreEntries, JudgesOutsideBodies}
use Rattle.wasm_module_validator_rules.specs.Binary.{SpelledGroup}
use Rattle.wasm_module_validator_rules.specs.Spaces.{types_behind}
use Rattle.wasm_module_validator_rules.specs.Syntax.{ModuleTree}
use Rattle.wasm_module_validator_section_order.specs.rules_in_order.Sections as section
use Rattle.wasm_module_validator_section_order.specs.rules_in_order.Steps.{SoFar, nothing, JudgesSection, JudgesShape, JudgesShapes, IsJudged}
use Rattle.wasm_module_validator_section_order.specs.rules_in_order.contexts.laws.InOrder.{valid_by_order_with}
use Rattle.wasm_module_validator_section_order.specs.rules_in_order.laws.Judged.{judged_in_order_with, judged_joined, judged_split, nothing_is_judged, shapes_keep, shapes_stay}
use Rattle.wasm_module_validator_section_order.specs.frames.FrontLaws.{calls_with_end, parsed_settings}
use Rattle.wasm_module_validator_section_order.specs.frames.JudgedLaws.{judged_less}
use Rattle.wasm_module_validator_section_order.specs.frames.Walks.{HasSettings}
use Rattle.wasm_module_validator_section_order.specs.frames.framed.laws.Accepted.{bodies_of_functions}
use Rattle.wasm_module_validator_section_order.specs.frames.framed.laws.Sound.{judged_is_spelled_with}
use Rattle.wasm_module_validator_section_order.specs.items.Adding.{AddsEach, IsItemOf, IsRead}
use Rattle.wasm_module_validator_section_order.specs.sections.Kinds.{group_of, group_read}
use Rattle.wasm_module_validator_section_order.specs.sections.laws.Groups.{groups_given, group_is_of_value}
use Rattle.wasm_module_validator_section_order.specs.sections.laws.Shapes.{shape_judged}
use Rattle.wasm_module_validator_drivers.specs.payloads.Progress.{HasGroup, HasItem}
use Rattle.wasm_module_validator_drivers.specs.reading.Reading.{HasGroupIn, IsReadAs, first_parser}

-- ---- what was read is a module of the rules

module _ (z : Settings) (text : List ℕ) where
  -- the tree of what was read is valid outside its bodies, and the bytes spell it
  pub read_judges : (q : SoFar) → IsReadAs z text q → JudgesOutsideBodies z text (record q.tree { code = [] })
  read_judges q (xs, is, judged) =
      let known : IsJudged z q = shapes_keep z xs nothing q (nothing_is_judged z) judged in
      let m : ModuleTree = record q.tree { code = [] } in
      let entries : AreEntries z m q.bodies = (bodies_of_functions z text xs q is judged, known.bodies) in
      record {
        spelled = judged_is_spelled_with (AreEntries z m) z text xs q [] is judged entries;
        valid = valid_by_order_with z m (judged_in_order_with (Unit {0}) z q [] known tt);
        code = refl;
      }

-- ---- groups that are read are those that the bytes spell

abbrev done : GroupValue → State → Outcome GroupValue
done v s = Done v s

abbrev given_number : ℕ → State → Outcome ℕ
given_number n s = Done n s

abbrev Reads : Settings → State → Written → State → Type 0
Reads z s x t = IsRead group_value group_read (rec_group z) s x t

module _ (z : Settings) where
  -- what is read first is spelled first
  first_read : (s t : State) (r : RecGroup) (n : ℕ) (a : Written) (bs : List Written) → rec_group z s ≡ Done (group_value r) t → Many (SpelledGroup z) (suc n) (a ∷ bs) s.rest
      → (a ≡ group_read r) × Many (SpelledGroup z) n bs t.rest
  first_read s t r n a bs read (front, back, spelled, many, parts) =
      let v = (groups_given z a front).1 spelled in
      let after : State = record { rest = back; place = s.place + length front; settings = s.settings; start = s.start } in
      let complete : rec_group z s ≡ Done v.0 after
      = (decides-rec_group z).complete s after v.0 front (record { parts = parts; place = refl; settings = refl; start = refl }) v.2 in
      let both : done (group_value r) t ≡ done v.0 after = sym read ∙ complete in
      let same : group_value r ≡ v.0 = value_is (group_value r) v.0 t after both in
      let there : t ≡ after = state_is (group_value r) v.0 t after both in
      (sym v.1 ∙ sym (ap group_of same) ∙ sym (group_is_of_value r), subst (λ (w : State). Many (SpelledGroup z) n bs w.rest) (sym there) many)

  -- so some groups that are read, and one more, come first among all
  come_first : (front : List Written) (s here there : State) (x : Written) (n : ℕ) (gs : List Written) → Many (SpelledGroup z) n gs s.rest → AddsEach (Reads z) s front here
      → Reads z here x there → length front < n → (back : List Written) × (gs ≡ front ++ x ∷ back)
  come_first [] s here there x zero gs many is read few = absurd (omega (arith, few))
  come_first [] s here there x (suc n) [] many is read few = absurd many
  come_first [] s here there x (suc n) (a ∷ bs) many is (r, e, read) few =
      let k = first_read here there r n a bs read (subst (λ (w : State). Many (SpelledGroup z) (suc n) (a ∷ bs) w.rest) is many) in
      (bs, ap (λ (y : Written). y ∷ bs) (k.0 ∙ e))
  come_first (y ∷ ys) s here there x zero gs many is read few = absurd (omega (arith, few))
  come_first (y ∷ ys) s here there x (suc n) [] many is read few = absurd many
  come_first (y ∷ ys) s here there x (suc n) (a ∷ bs) many (k, (r, e, first), more) read few =
      let f = first_read s k r n a bs first many in
      let rest = come_first ys k here there x n bs f.1 more read (omega (arith, few)) in
      (rest.0, (λ i. (f.0 ∙ e) i ∷ rest.1 i))

-- ---- how many types there are

many_types : (t : GroupTree) (place n : ℕ) → length (types_from t place n) ≡ n
unfolding types_from
many_types t place zero = refl
many_types t place (suc n) = ap suc (many_types t (suc place) n)

size_of : (space : List TypeTree) (g : Written) → length (types_of space g) ≡ length g.types
size_of space g = many_types (written_tree space g) 0 (length g.types)

-- groups take no type away
no_fewer : (space : List TypeTree) (gs : List Written) → length space ≤ length (types_behind space gs)
no_fewer space [] = omega arith
no_fewer space (g ∷ gs) =
    let rest = no_fewer (space ++ types_of space g) gs in
    let whole = length-append space (types_of space g) in
    omega (arith, rest, whole)

-- the types before a group, and its own, are no more than all
enough : (space : List TypeTree) (front : List Written) (x : Written) (back : List Written)
    → length (types_behind space front) + length x.types ≤ length (types_behind space (front ++ x ∷ back))
enough space [] x back =
    let rest = no_fewer (space ++ types_of space x) back in
    let whole = length-append space (types_of space x) in
    let own = size_of space x in
    omega (arith, rest, whole, own)
enough space (g ∷ gs) x back = enough (space ++ types_of space g) gs x back

-- ---- a section of types

-- a payload that has a group is a section of types
is_types : (x : Payload) (before : List TypeTree) (own : ℕ) → HasGroup x before own
    → (s : SectionLimited RecGroup) × (x ≡ payloads.TypeSection s) × HasItem section.types (IsItemOf group_value group_read rec_group s.count s.reader) before own
is_types (payloads.TypeSection s) before own h = (s, refl, h)
is_types (payloads.Version n e r) before own h = absurd h
is_types (payloads.ImportSection s) before own h = absurd h
is_types (payloads.FunctionSection s) before own h = absurd h
is_types (payloads.TableSection s) before own h = absurd h
is_types (payloads.MemorySection s) before own h = absurd h
is_types (payloads.TagSection s) before own h = absurd h
is_types (payloads.GlobalSection s) before own h = absurd h
is_types (payloads.ExportSection s) before own h = absurd h
is_types (payloads.StartSection n r) before own h = absurd h
is_types (payloads.ElementSection s) before own h = absurd h
is_types (payloads.DataCountSection n r) before own h = absurd h
is_types (payloads.DataSection s) before own h = absurd h
is_types (payloads.CodeSectionStart n r k) before own h = absurd h
is_types (payloads.CodeSectionEntry b) before own h = absurd h
is_types (payloads.CustomSection c) before own h = absurd h
is_types (payloads.UnknownSection i c r) before own h = absurd h
is_types (payloads.End place) before own h = absurd h

-- a frame of such a payload is a section with its id, whose contents begin with the count
is_of_types : (f : Frame) (x : Payload) (s : SectionLimited RecGroup) → x ≡ payloads.TypeSection s → IsPayloadOf f x → (b : State) × (f ≡ frames.Section 1 b) × Counts b s.count s.reader
is_of_types (frames.Section id b) x s e is =
    let here = subst (IsPayloadOf (frames.Section id b)) e is in (b, ap (λ (i : ℕ). frames.Section i b) here.0, here.1)
is_of_types (frames.Version n v r) x s e is = absurd (let bad : payloads.TypeSection s ≡ payloads.Version n v r = sym e ∙ is in cc)
is_of_types (frames.Custom c) x s e is = absurd (let bad : payloads.TypeSection s ≡ payloads.CustomSection c = sym e ∙ is in cc)
is_of_types (frames.CodeStart n r k) x s e is = absurd (let bad : payloads.TypeSection s ≡ payloads.CodeSectionStart n r k = sym e ∙ is in cc)
is_of_types (frames.CodeEntry b) x s e is = absurd (let bad : payloads.TypeSection s ≡ payloads.CodeSectionEntry b = sym e ∙ is in cc)
is_of_types (frames.End place) x s e is = absurd (let bad : payloads.TypeSection s ≡ payloads.End place = sym e ∙ is in cc)

-- of types that the contents of a section spell, those before a group that is read and its own are no more than all
section_has : (z : Settings) (b reader : State) (n : ℕ) (gs : List Written) (before : List TypeTree) (own : ℕ) → b.settings ≡ z → Counts b n reader → IsListed (SpelledGroup z) gs b.rest
    → HasItem section.types (IsItemOf group_value group_read rec_group n reader) before own → length before + own ≤ length (types_behind [] gs)
section_has z b reader n gs before own settings counts l (front, x, item, same, size) =
    let after : State = record { rest = l.values; place = b.place + length l.count; settings = b.settings; start = b.start } in
    let counted : u32 b ≡ Done (length gs) after
    = decides-u32.complete b after (length gs) l.count (record { parts = l.whole; place = refl; settings = refl; start = refl }) l.counted in
    let both : given_number n reader ≡ given_number (length gs) after = sym counts ∙ counted in
    let many : length gs ≡ n = sym (value_is n (length gs) reader after both) in
    let there : after ≡ reader = sym (state_is n (length gs) reader after both) in
    let by : reader.settings ≡ z = ap (λ (s : State). s.settings) (sym there) ∙ settings in
    let spelled : Many (SpelledGroup z) n gs reader.rest
    = subst (λ (k : ℕ). Many (SpelledGroup z) k gs reader.rest) many (subst (λ (s : State). Many (SpelledGroup z) (length gs) gs s.rest) there l.each) in
    let read : AddsEach (Reads z) reader front item.here = subst (λ (y : Settings). AddsEach (Reads y) reader front item.here) by item.read in
    let last : Reads z item.here x item.there = subst (λ (y : Settings). Reads y item.here x item.there) by item.is in
    let first = come_first z front reader item.here item.there x n gs spelled read last item.fewer in
    let all = subst (λ (hs : List Written). length (types_behind [] front) + length x.types ≤ length (types_behind [] hs)) (sym first.1) (enough [] front x first.0) in
    let whole : length before ≡ length (types_behind [] front) = ap length same in
    omega (arith, all, whole, size)

-- ---- a frame of a module that was judged

-- the frame that calls gave last is read by the settings of the parser
last_settings : (fs : List Frame) (f : Frame) (p q : Parser) (text rest : List ℕ) → Calls p text (fs ++ f ∷ []) q rest → HasSettings p.settings f
last_settings [] f p q text rest (n, r, c, more) = (parsed_settings p c.piece c.eof n f r c.parses).0
last_settings (x ∷ fs) f p q text rest (n, r, c, more) =
    subst (λ (z : Settings). HasSettings z f) (parsed_settings p c.piece c.eof n x r c.parses).1 (last_settings fs f r q _ rest more)

-- it is judged as the section of types, and has no more than all
frame_has : (z : Settings) (f : Frame) (x : Payload) (p r : SoFar) (before : List TypeTree) (own : ℕ) → IsPayloadOf f x → HasGroup x before own → HasSettings z f
    → JudgesShape z p (shape_of f) r → (1 ≤ r.last) × (length before + own ≤ length (types_behind [] r.tree.types))
frame_has z f x p r before own is has settings judged =
    let s = is_types x before own has in
    let b = is_of_types f x s.0 s.1 is in
    let by : b.0.settings ≡ z = subst (HasSettings z) b.1 settings in
    let here : JudgesSection z p section.types b.0.rest r
    = (shape_judged z section.types p r b.0.rest).0 (subst (λ (g : Frame). JudgesShape z p (shape_of g) r) b.1 judged) in
    let last : r.last ≡ 1 = here.last in
    (omega (arith, last), section_has z b.0 s.0.reader s.0.count r.tree.types before own by b.2 here.spelled s.2)

-- a group of bytes that are read is one of their module: with the types before it, it has no more than all
pub groups_within : (z : Settings) (text : List ℕ) (before : List TypeTree) (own : ℕ) (q : SoFar) → length text < 2 ^ 64 → HasGroupIn z text before own → IsReadAs z text q
    → length before + own ≤ length (types_behind [] q.tree.types)
groups_within z text before own q room g (ys, is, judged) =
    let all = g.frames ++ g.last ∷ [] in
    let ended : JudgesShapes z nothing (ys ++ the_end ∷ []) q = judged_joined z ys (the_end ∷ []) nothing q q judged (q, refl, refl) in
    let short : 0 + length text < 2 ^ 64 = omega (arith, room) in
    let front = calls_with_end (first_parser z) g.parser text g.rest all ys refl short is g.calls in
    let split = judged_split z (shapes_of all) front.0 nothing q (subst (λ (xs : List Shape). JudgesShapes z nothing xs q) front.1 ended) in
    let last = judged_less z g.frames g.last split.0 split.1 in
    let there = frame_has z g.last g.section last.0 split.0 before own g.is g.has (last_settings g.frames g.last (first_parser z) g.parser text g.rest g.calls) last.2 in
    let same : split.0.tree.types ≡ q.tree.types = ap (λ (m : ModuleTree). m.types) ((shapes_stay z front.0 split.0 q split.2).1 section.types there.0) in
    subst (λ (gs : List Written). length before + own ≤ length (types_behind [] gs)) same there.1
