-- That two tables of labels are the same is an equivalence.
use Rattle.std.specs.Cmp.{IsPartialEquivalence, IsEquivalence}
use Rattle.std.specs.Cmp.Rules.{comparing}
use Rattle.std.proofs.Common.{rules}
use Rattle.wasm_operators_immediates.specs.Tables.{same_labels}

pub same_labels_equal : IsPartialEquivalence same_labels × IsEquivalence same_labels
same_labels_equal = (search (comparing, rules), search (comparing, rules))
