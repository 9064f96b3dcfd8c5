-- What is read computes; what is not follows from what is.
use Rattle.std.proofs.Common.{◌≡◌, ℕ, List, [], ◌∷◌, length, refl, ap, subst, arith, true, false, inl, inr}
use Rattle.wasm_types.specs.decoding.Decoder.{Done}
use Rattle.wasm_types.specs.decoding.Leb.{unsigned}
use Rattle.wasm_types.specs.decoding.declared.error.ErrorKind.TheVariants.{Other}
use Rattle.wasm_types.specs.decoding.ErrorValue.{ErrorValue}
use Rattle.wasm_types.specs.settings.Limits.{default_limits}
use Rattle.wasm_types.specs.settings.Settings.{no_features}
use Rattle.wasm_types.specs.reader.Reading.{Fails}
use Rattle.wasm_operators_immediates.specs.Blocks.{function_block, value_block, empty_block, block_type}
use Rattle.wasm_operators_immediates.specs.declared.block.BlockType.TheVariants.{Empty}
use Rattle.wasm_operators_immediates.specs.declared.frames.FrameKind.TheVariants.{Block}
use Rattle.wasm_operators_enums.specs.declared.control.ControlOperator.TheVariants as control
use Rattle.wasm_operators_enums.specs.Op as op
use Rattle.wasm_operators_enums.specs.Table.{info_of}
use Rattle.wasm_operators_encoding.specs.Opcodes.{opcode}
use Rattle.wasm_operators_encoding.specs.Groups.{numeric_kinds, simd_numeric_kinds}
use Rattle.wasm_operators_encoding.specs.Coded.{operator}
use Rattle.wasm_operators_encoding.specs.Operators.{coded_of}
use Rattle.wasm_operators_encoding.specs.immediates.Immediates.{immediate}
use Rattle.wasm_operators_reader.specs.Standing.{Standing, Reads, IsOpening, WantsMemory, Runs, Stops}
use Rattle.wasm_operators_reader.specs.StandingLaws.{one_step, unread, nothing_follows, refused_no_step}
use Rattle.wasm_operators_tests.specs.reader.StandingRows.{ReadRows, RefusedRows, MemoryRows, RunRows, at, before_nop, before_end, behind_end, nop, end, error}

pub nop_read : Reads before_nop nop before_end
unfolding default_limits unsigned opcode numeric_kinds simd_numeric_kinds operator immediate
nop_read = record { canonical = refl; read = refl; fits = refl }

pub end_read : Reads before_end end behind_end
unfolding default_limits unsigned opcode numeric_kinds simd_numeric_kinds operator immediate
end_read = record { canonical = refl; read = refl; fits = refl }

pub one_read : Reads (at 0 (0x01 ∷ []) (Block ∷ [])) nop (at 1 [] (Block ∷ []))
unfolding default_limits unsigned opcode numeric_kinds simd_numeric_kinds operator immediate
one_read = record { canonical = refl; read = refl; fits = refl }

-- `else`, in whichever frame
pub else_read : operator no_features (at 0 (0x05 ∷ []) []).bytes ≡ Done (coded_of (op.Control control.Else)) (at 1 [] []).bytes
unfolding default_limits unsigned opcode numeric_kinds simd_numeric_kinds operator immediate
else_read = refl

pub else_is_read : Fails (error Other 0) (operator no_features (at 0 (0x05 ∷ []) []).bytes) → ⊥
else_is_read f = unread (error Other 0) no_features (at 0 (0x05 ∷ []) []).bytes f tt (coded_of (op.Control control.Else)) (at 1 [] []).bytes else_read

abbrev code : op.Op → ℕ
code o = (info_of o).code

pub read_rows : ReadRows
read_rows = record {
  start = refl;
  plain = nop_read;
  closing = end_read;
  another = λ r. let c : ◌≡◌ {A = ℕ} 1 0 = ap code (one_step _ _ _ _ _ nop_read r).0 in omega (arith, c);
  elsewhere = λ r. let p : ◌≡◌ {A = ℕ} 1 0 = ap (λ (s : Standing). s.bytes.place) (one_step _ _ _ _ _ nop_read r).1 in omega (arith, p);
  in_another_frame = λ r. let f = ap (λ (s : Standing). s.frames) (one_step _ _ _ _ _ nop_read r).1 in cc;
  in_no_frame = λ r. nothing_follows _ _ _ refl r;
  turning = record { canonical = refl; read = else_read; fits = refl };
  not_turning = λ t r. let f = r.fits in cc;
  some_frame = refl;
  no_frame = refl;
  finished = record { frames = refl; bytes = refl };
  still_open = λ f. let e = f.frames in cc;
  bytes_left = λ f. let e = f.bytes in cc;
  items = refl;
  no_items = refl;
}

pub refused_rows : RefusedRows
unfolding default_limits unsigned opcode numeric_kinds simd_numeric_kinds operator immediate
refused_rows = record {
  no_frame = (refl, refl);
  no_frame_elsewhere = λ r. let e = r.1 in omega (arith, e);
  no_frame_at_the_end = λ r. let e = r.0 in cc;
  no_operator = inl refl;
  no_byte = inl refl;
  unfit = inr (record { op = op.Control control.Else; behind = (at 1 [] []).bytes; canonical = refl; read = refl; unfit = refl }, refl, refl);
  unfit_elsewhere = λ r. elim r [ inl f ↦ else_is_read f | inr u ↦ let e = u.2 in omega (arith, e) ];
  fit = λ r. refused_no_step before_nop (error Other 1) r tt nop before_end nop_read;
}

-- an operator that opens a frame is read, and leaves one more open
opening_read : (s : Standing) (o : IsOpening s) → Reads s o.op (record { bytes = o.behind; frames = o.frame ∷ s.frames })
opening_read s o = record { canonical = o.canonical; read = o.read; fits = o.opens }

-- so none that is read and leaves no more open opens one
not_opening : (s t : Standing) (p : op.Op) → Reads s p t → length t.frames ≡ length s.frames → IsOpening s → ⊥
not_opening s t p r same o =
    let e : t ≡ record { bytes = o.behind; frames = o.frame ∷ s.frames } = (one_step _ _ _ _ _ r (opening_read s o)).1 in
    let more : length t.frames ≡ length (o.frame ∷ s.frames) = ap (λ (u : Standing). length u.frames) e in
    omega (arith, more, same)

not_closing : (s t : Standing) (p : op.Op) → Reads s p t → t.frames ≡ [] → IsOpening s → ⊥
not_closing s t p r none o =
    let e : t ≡ record { bytes = o.behind; frames = o.frame ∷ s.frames } = (one_step _ _ _ _ _ r (opening_read s o)).1 in
    let some : t.frames ≡ o.frame ∷ s.frames = ap (λ (u : Standing). u.frames) e in
    cc

pub none_wanted : WantsMemory before_nop → ⊥
unfolding opcode numeric_kinds simd_numeric_kinds
none_wanted (inl k) = let e : false ≡ true = k in cc
none_wanted (inr o) = not_opening _ _ _ nop_read refl o

none_wanted_at_the_end : WantsMemory before_end → ⊥
unfolding opcode numeric_kinds simd_numeric_kinds
none_wanted_at_the_end (inl k) = let e : false ≡ true = k in cc
none_wanted_at_the_end (inr o) = not_closing _ _ _ end_read refl o

none_wanted_behind : WantsMemory behind_end → ⊥
unfolding opcode
none_wanted_behind (inl k) = let e : false ≡ true = k in cc
none_wanted_behind (inr o) = let e = o.opens in cc

pub memory_rows : MemoryRows
unfolding default_limits unsigned opcode numeric_kinds simd_numeric_kinds operator immediate function_block value_block empty_block block_type
memory_rows = record {
  types = inl refl;
  frame = inr (record { op = op.Control (control.Block Empty); behind = (at 2 [] []).bytes; frame = Block; canonical = refl; read = refl; opens = refl });
  none = none_wanted;
  closed = none_wanted_at_the_end;
  kept = inr (nop, before_end, nop_read);
  nothing_kept = λ t. elim t [ inl w ↦ none_wanted_behind w | inr x ↦ nothing_follows _ _ _ refl x.2 ];
}

pub whole : (e : ErrorValue) → Stops behind_end e → ⊥
whole e (inl h) = h.0 refl
whole e (inr h) = h.1 refl

no_more : (e : ErrorValue) (os : List op.Op) (t : Standing) → Runs behind_end os t → Stops t e → ⊥
no_more e [] t r s = whole e (subst (λ (u : Standing). Stops u e) r s)
no_more e (o ∷ os) t r s = nothing_follows _ _ _ refl r.1

pub run_rows : RunRows
unfolding default_limits unsigned opcode numeric_kinds simd_numeric_kinds operator immediate
run_rows = record {
  both = (before_end, nop_read, (behind_end, end_read, refl));
  none = refl;
  none_to_the_end = λ r. let p : ◌≡◌ {A = ℕ} 2 0 = ap (λ (s : Standing). s.bytes.place) r in omega (arith, p);
  the_second_alone = λ r. let c : ◌≡◌ {A = ℕ} 1 11 = ap code (one_step _ _ _ _ _ nop_read r.1).0 in omega (arith, c);
  beyond_the_end = λ o t r. nothing_follows _ _ _ refl r.1;
  stopped_at_bytes = inl (λ e. cc, inl refl);
  stopped_in_a_frame = inr (refl, λ e. cc, refl, refl);
  stopped_elsewhere = λ s. elim s [ inl h ↦ h.0 refl | inr h ↦ let e = h.3 in omega (arith, e) ];
  stopped_as_at_bytes = λ s. elim s [ inl h ↦ h.0 refl | inr h ↦ let e = h.2 in cc ];
  not_stopped = λ s. elim s [ inl h ↦ refused_no_step before_nop (error Other 1) h.1 tt nop before_end nop_read | inr h ↦ let e = h.0 in cc ];
  whole = whole;
  stopped_behind_one = (nop ∷ [], at 1 [] (Block ∷ []), (at 1 [] (Block ∷ []), one_read, refl), inr (refl, λ e. cc, refl, refl));
  not_stopped_behind_all = λ e x. no_more e x.0 x.1 x.2 x.3;
}
