use Rattle.std.proofs.Common.{List, ℕ, subst, sym}
use Rattle.std.specs.Fmt.{WritesOnOk}
use Rattle.wasm_check_faults.proofs.WordListLemmas.{words_flat}
use Rattle.wasm_check_faults.proofs.word_lists.write_back.Goals as goal

pub returns : goal.returns
returns g c =
    subst (λ (text : List ℕ). WritesOnOk g.W.Write.write_str_gives c.args.f.now c.write_words.result text c.write_words.new.f)
    (sym (words_flat c.args.words.now)) c.write_words.ensures
