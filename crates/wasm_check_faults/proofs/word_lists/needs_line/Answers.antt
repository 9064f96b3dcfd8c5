use Rattle.std.proofs.Common.{◌++◌, codes, string_bytes}
use Rattle.wasm_check_lines.specs.Shown.{shown}
use Rattle.wasm_check_faults.specs.WordLists.{listed, words_in}
use Rattle.wasm_check_faults.proofs.WordListLemmas.{text_of_4}
use Rattle.wasm_check_faults.proofs.word_lists.needs_line.Goals as goal

pub returns : goal.returns
returns c = text_of_4 string_bytes c.format.result (shown c.args.name.now) (codes ": needs ") (listed (words_in c.args.list.0.now) ++ c.args.list.1.now)
    (codes "\n") c.format.ensures.ok
