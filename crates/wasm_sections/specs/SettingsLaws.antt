-- A payload by other settings is that of the same frame by these.
use Rattle.std.proofs.Common.{◌≡◌, ℕ, Bool, true, false, ◌==◌, if◌then◌else◌, length, refl, sym, ap, subst, ◌∙◌}
use Rattle.wasm_types.specs.decoding.declared.Refusal.TheVariants.{Other}
use Rattle.wasm_types.specs.decoding.Decoder.{State, Outcome, Done, Short, Fault, ended}
use Rattle.wasm_types.specs.decoding.Leb.{u32}
use Rattle.wasm_types.specs.decoding.LebLaws.{decides-u32}
use Rattle.wasm_types.specs.settings.Settings.{Settings}
use Rattle.wasm_sections_parser.specs.declared.frame.Frame.{Frame}
use Rattle.wasm_sections_parser.specs.declared.frame.Frame.TheVariants as frames
use Rattle.wasm_sections_parser.specs.Parsing.{shape_of}
use Rattle.wasm_sections.specs.declared.payload.Payload.{Payload}
use Rattle.wasm_sections.specs.declared.payload.Payload.TheVariants as payloads
use Rattle.wasm_sections.specs.Payloads.{Counts, IsSectionOf, IsPayloadOf, only_number, set, read_by}

-- the contents of a section by other settings
abbrev pub frame_by : Settings → Frame → Frame
frame_by z (frames.Version n e r) = frames.Version n e r
frame_by z (frames.Custom c) = frames.Custom c
frame_by z (frames.Section id b) = frames.Section id (set z b)
frame_by z (frames.CodeStart n r k) = frames.CodeStart n r k
frame_by z (frames.CodeEntry b) = frames.CodeEntry b
frame_by z (frames.End place) = frames.End place

-- settings are no part of a shape
pub same_shape : (z : Settings) (f : Frame) → shape_of (frame_by z f) ≡ shape_of f
same_shape z (frames.Version n e r) = refl
same_shape z (frames.Custom c) = refl
same_shape z (frames.Section id b) = refl
same_shape z (frames.CodeStart n r k) = refl
same_shape z (frames.CodeEntry b) = refl
same_shape z (frames.End place) = refl

-- a number is read by whatever settings
number_by : (z : Settings) (b t : State) (n : ℕ) → u32 b ≡ Done n t → u32 (set z b) ≡ Done n (set z t)
number_by z b t n e =
    let s = decides-u32.sound b t n e in
    decides-u32.complete (set z b) (set z t) n s.0
    (record { parts = s.1.parts; place = s.1.place; settings = refl; start = s.1.start }) s.2

abbrev value_of : Outcome ℕ → ℕ
value_of (Done n t) = n
value_of (Short p h) = 0
value_of (Fault k p) = 0

abbrev is_done : Outcome ℕ → Bool
is_done (Done n t) = true
is_done (Short p h) = false
is_done (Fault k p) = false

not_done : false ≡ true → ⊥
not_done e = cc

only_by : (z : Settings) (b : State) (n : ℕ) → only_number b ≡ Done n b → only_number (set z b) ≡ Done n (set z b)
only_by z b n e = go (u32 b) refl e
  where
    left : (x : ℕ) (u : State) (empty : Bool) → u32 b ≡ Done x u → (length u.rest == 0) ≡ empty
        → (if empty then Done x b else Fault Other u.place) ≡ Done n b → only_number (set z b) ≡ Done n (set z b)
    left x u true is none same =
        ap (ended Other Other (set z b)) (number_by z b u x is)
        ∙ (ap (λ (c : Bool). if c then Done x (set z b) else Fault Other u.place) none ∙ ap (λ (m : ℕ). Done m (set z b)) (ap value_of same))
    left x u false is some same = absurd (not_done (ap is_done same))

    go : (o : Outcome ℕ) → u32 b ≡ o → ended Other Other b o ≡ Done n b → only_number (set z b) ≡ Done n (set z b)
    go (Done x u) is same = left x u (length u.rest == 0) is refl same
    go (Short p h) is same = absurd (not_done (ap is_done same))
    go (Fault k p) is same = absurd (not_done (ap is_done same))

pub section_by : (z : Settings) (id : ℕ) (b : State) (x : Payload) → IsSectionOf id b x → IsSectionOf id (set z b) (read_by z x)
section_by z id b (payloads.TypeSection s) h = (h.0, number_by z b s.reader s.count h.1)
section_by z id b (payloads.ImportSection s) h = (h.0, number_by z b s.reader s.count h.1)
section_by z id b (payloads.FunctionSection s) h = (h.0, number_by z b s.reader s.count h.1)
section_by z id b (payloads.TableSection s) h = (h.0, number_by z b s.reader s.count h.1)
section_by z id b (payloads.MemorySection s) h = (h.0, number_by z b s.reader s.count h.1)
section_by z id b (payloads.GlobalSection s) h = (h.0, number_by z b s.reader s.count h.1)
section_by z id b (payloads.ExportSection s) h = (h.0, number_by z b s.reader s.count h.1)
section_by z id b (payloads.StartSection n r) h = (h.0, only_by z b n h.1, h.2, h.3)
section_by z id b (payloads.ElementSection s) h = (h.0, number_by z b s.reader s.count h.1)
section_by z id b (payloads.DataSection s) h = (h.0, number_by z b s.reader s.count h.1)
section_by z id b (payloads.DataCountSection n r) h = (h.0, only_by z b n h.1, h.2, h.3)
section_by z id b (payloads.TagSection s) h = (h.0, number_by z b s.reader s.count h.1)
section_by z id b (payloads.UnknownSection i c r) h = h
section_by z id b (payloads.Version n e r) h = h
section_by z id b (payloads.CodeSectionStart n r k) h = h
section_by z id b (payloads.CodeSectionEntry body) h = h
section_by z id b (payloads.CustomSection c) h = h
section_by z id b (payloads.End place) h = h

pub payload_by : (z : Settings) (f : Frame) (x : Payload) → IsPayloadOf f x → IsPayloadOf (frame_by z f) (read_by z x)
payload_by z (frames.Version n e r) x h = ap (read_by z) h
payload_by z (frames.Custom c) x h = ap (read_by z) h
payload_by z (frames.Section id b) x h = section_by z id b x h
payload_by z (frames.CodeStart n r k) x h = ap (read_by z) h
payload_by z (frames.CodeEntry b) x h = ap (read_by z) h
payload_by z (frames.End place) x h = ap (read_by z) h

-- a reader of items has the settings of the contents
counted_by : (z : Settings) (b t : State) (n : ℕ) → b.settings ≡ z → Counts b n t → set z t ≡ t
counted_by z b t n e h = λ i. record t { settings = (sym e ∙ sym (decides-u32.sound b t n h).1.settings) i }

-- what a parser gives by these settings is read by them
pub section_is_by : (z : Settings) (id : ℕ) (b : State) (x : Payload) → b.settings ≡ z → IsSectionOf id b x → read_by z x ≡ x
section_is_by z id b (payloads.TypeSection s) e h = λ i. payloads.TypeSection (record s { reader = counted_by z b s.reader s.count e h.1 i })
section_is_by z id b (payloads.ImportSection s) e h = λ i. payloads.ImportSection (record s { reader = counted_by z b s.reader s.count e h.1 i })
section_is_by z id b (payloads.FunctionSection s) e h = λ i. payloads.FunctionSection (record s { reader = counted_by z b s.reader s.count e h.1 i })
section_is_by z id b (payloads.TableSection s) e h = λ i. payloads.TableSection (record s { reader = counted_by z b s.reader s.count e h.1 i })
section_is_by z id b (payloads.MemorySection s) e h = λ i. payloads.MemorySection (record s { reader = counted_by z b s.reader s.count e h.1 i })
section_is_by z id b (payloads.GlobalSection s) e h = λ i. payloads.GlobalSection (record s { reader = counted_by z b s.reader s.count e h.1 i })
section_is_by z id b (payloads.ExportSection s) e h = λ i. payloads.ExportSection (record s { reader = counted_by z b s.reader s.count e h.1 i })
section_is_by z id b (payloads.ElementSection s) e h = λ i. payloads.ElementSection (record s { reader = counted_by z b s.reader s.count e h.1 i })
section_is_by z id b (payloads.DataSection s) e h = λ i. payloads.DataSection (record s { reader = counted_by z b s.reader s.count e h.1 i })
section_is_by z id b (payloads.TagSection s) e h = λ i. payloads.TagSection (record s { reader = counted_by z b s.reader s.count e h.1 i })
section_is_by z id b (payloads.StartSection n r) e h = refl
section_is_by z id b (payloads.DataCountSection n r) e h = refl
section_is_by z id b (payloads.UnknownSection i c r) e h = refl
section_is_by z id b (payloads.Version n e r) same h = refl
section_is_by z id b (payloads.CodeSectionStart n r k) e h = refl
section_is_by z id b (payloads.CodeSectionEntry body) e h = refl
section_is_by z id b (payloads.CustomSection c) e h = refl
section_is_by z id b (payloads.End place) e h = refl
