-- The numbers at their edges, each by computing it.
use Rattle.std.proofs.Common.{refl}
use Rattle.wasm_types.specs.decoding.Leb.{unsigned, signed, last_bits}
use Rattle.wasm_types_tests.specs.Edges.{UnsignedEdges32, UnsignedEdges64, SignedEdges32, SignedEdges33, SignedEdges64}

pub unsigned_edges_32 : UnsignedEdges32
unfolding unsigned
unsigned_edges_32 = record { none = refl; cut_short = refl; one_byte = refl; largest = refl; padded = refl; one_too_large = refl; far_too_large = refl; too_long = refl; too_long_and_large = refl }

pub unsigned_edges_64 : UnsignedEdges64
unfolding unsigned
unsigned_edges_64 = record { none = refl; cut_short = refl; one_byte = refl; largest = refl; padded = refl; one_too_large = refl; far_too_large = refl; too_long = refl; too_long_and_large = refl }

pub signed_edges_32 : SignedEdges32
unfolding signed last_bits
signed_edges_32 = record { none = refl; cut_short = refl; one_byte_positive = refl; one_byte_negative = refl; largest = refl; least = refl; padded = refl; padded_negative = refl; one_too_large = refl; one_too_small = refl; too_long = refl; too_long_and_large = refl }

pub signed_edges_33 : SignedEdges33
unfolding signed last_bits
signed_edges_33 = record { none = refl; cut_short = refl; one_byte_positive = refl; one_byte_negative = refl; largest = refl; least = refl; padded = refl; padded_negative = refl; one_too_large = refl; one_too_small = refl; too_long = refl; too_long_and_large = refl }

pub signed_edges_64 : SignedEdges64
unfolding signed last_bits
signed_edges_64 = record { none = refl; cut_short = refl; one_byte_positive = refl; one_byte_negative = refl; largest = refl; least = refl; padded = refl; padded_negative = refl; one_too_large = refl; one_too_small = refl; too_long = refl; too_long_and_large = refl }
