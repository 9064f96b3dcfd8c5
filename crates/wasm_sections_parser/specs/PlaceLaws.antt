-- Where contents begin.
use Rattle.std.proofs.Common.{◌≡◌, ℕ, List, [], ◌∷◌, refl, sym, ap, ◌∙◌, subst, arith, Result, Ok, Err}
use Rattle.std.specs.Prelude.{IfOk}
use Rattle.wasm_types.specs.settings.Settings.{Settings}
use Rattle.wasm_types.specs.decoding.Decoder.{State, Done, first_of_rest, byte}
use Rattle.wasm_types.specs.decoding.ExactLaws.{state_is}
use Rattle.wasm_types.specs.decoding.Leb.{u32}
use Rattle.wasm_types.specs.decoding.LebLaws.{decides-u32}
use Rattle.wasm_sections_parser.specs.declared.frame.Frame.{Frame}
use Rattle.wasm_sections_parser.specs.declared.frame.Frame.TheVariants as frames
use Rattle.wasm_sections_parser.specs.declared.progress.Progress.{Progress}
use Rattle.wasm_sections_parser.specs.Places.{HasContentsAt, IsPlacedBy, IsPlaced}

-- behind an id and a size contents begin, under the same settings
pub begins_behind : (s m w : State) (id n : ℕ) → byte s ≡ Done id m → u32 m ≡ Done n w → HasContentsAt s w.place × (w.settings ≡ s.settings)
begins_behind s m w id n e f = go s.rest refl e
  where
    go : (text : List ℕ) → s.rest ≡ text → first_of_rest text s ≡ Done id m → HasContentsAt s w.place × (w.settings ≡ s.settings)
    go [] r g = absurd cc
    go (b ∷ rest) r g =
        let there = state_is b id _ m g in
        let size = decides-u32.sound m w n f in (
          record {
            id = b;
            size = n;
            number = size.0;
            rest = w.rest;
            sized = size.2;
            parts = r ∙ ap (λ (x : List ℕ). b ∷ x) (ap (λ (u : State). u.rest) there ∙ size.1.parts);
            behind = omega (arith, size.1.place, ap (λ (u : State). u.place) there);
          },
          size.1.settings ∙ sym (ap (λ (u : State). u.settings) there),
        )

-- the same frame, where contents that begin as the one says begin as the other says
placed_so : (P Q : ℕ → Type 0) (z y : Settings) (f : Frame) (q : Progress) (to end : ℕ) → ((n : ℕ) → P n → Q n) → z ≡ y → to ≡ end → IsPlacedBy P z f q to → IsPlacedBy Q y f q end
placed_so P Q z y (frames.Version n e r) q to end on same there h = (h.0 ∙ there, h.1 ∙ there)
placed_so P Q z y (frames.Custom c) q to end on same there h = (h.0 ∙ there, h.1 ∙ there, on c.range.start h.2)
placed_so P Q z y (frames.Section id r) q to end on same there h = (h.0, h.1 ∙ there, h.2 ∙ same)
placed_so P Q z y (frames.CodeStart n r size) q to end on same there h = h
placed_so P Q z y (frames.CodeEntry r) q to end on same there h = (h.0, h.1 ∙ there, h.2 ∙ same)
placed_so P Q z y (frames.End place) q to end on same there h = h ∙ there

pub placed_on : {A E : Type 0} (frame : A → Frame) (progress : A → Progress) (P Q : ℕ → Type 0) (z y : Settings) (to end : ℕ) (r : Result A E)
    → ((n : ℕ) → P n → Q n) → z ≡ y → to ≡ end → IfOk r (λ x. IsPlacedBy P z (frame x) (progress x) to) → IfOk r (λ x. IsPlacedBy Q y (frame x) (progress x) end)
placed_on frame progress P Q z y to end (Ok x) on same there h = placed_so P Q z y (frame x) (progress x) to end on same there h
placed_on frame progress P Q z y to end (Err e) on same there h = tt

-- behind an id and a size, where contents begin, a frame is placed as from before them
pub placed_behind : {A E : Type 0} (frame : A → Frame) (progress : A → Progress) (s m w : State) (id n to : ℕ) (r : Result A E)
    → byte s ≡ Done id m → u32 m ≡ Done n w → IfOk r (λ x. IsPlacedBy (λ k. k ≡ w.place) w.settings (frame x) (progress x) to)
    → IfOk r (λ x. IsPlaced (frame x) (progress x) s to)
placed_behind frame progress s m w id n to r e f h =
    let b = begins_behind s m w id n e f in
    placed_on frame progress (λ k. k ≡ w.place) (HasContentsAt s) w.settings s.settings to to r (λ k same. subst (HasContentsAt s) (sym same) b.0) b.1 refl h
