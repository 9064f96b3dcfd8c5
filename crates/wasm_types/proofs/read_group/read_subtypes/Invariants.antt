use Rattle.std.proofs.Common.{◌≡◌, ◌-◌, length, map}
use Rattle.wasm_types_decoding.specs.Decoder.{repeated, Reaches}
use Rattle.wasm_types_reader.proofs.Rows.{with_front}
use Rattle.wasm_types.specs.SpellsTypes.{sub_value}
use Rattle.wasm_types.specs.DecodeTypes.{sub_type}
use Rattle.wasm_types.specs.Places.{place_of}
use Rattle.wasm_types.proofs.read_group.read_subtypes.Given as goal

-- what was read, and what is still read, is what all of it is read as; and so for the offsets
abbrev pub invariant-loop : goal.invariant-loop
invariant-loop l = record {
  read : with_front (map sub_value l.types.items) (repeated (l.count - l.counter) (sub_type l.fn.reader.settings) l.reader) ≡ repeated l.count
      (sub_type l.fn.reader.settings) l.fn.reader;
  placed : with_front l.offsets.items (repeated (l.count - l.counter) (place_of (sub_type l.fn.reader.settings)) l.reader) ≡ repeated l.count
      (place_of (sub_type l.fn.reader.settings)) l.fn.reader;
  forward : Reaches l.fn.reader l.reader;
  even : length l.types.items ≡ length l.offsets.items;
}
