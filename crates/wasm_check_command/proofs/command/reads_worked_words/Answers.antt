-- Each by what clap makes of the words.
use Rattle.std.proofs.Common.{refl}
use Rattle.clap.proofs.OnLiterals.{clap_on_literals}
use Rattle.wasm_check_command.specs.Commands.{AreRead}
use Rattle.wasm_check_command.proofs.command.reads_worked_words.Goals as goal

read : AreRead
unfolding clap_on_literals
read = record {
  two = record { taken = refl; named = refl };
  behind_dashes = record { taken = refl; named = refl };
  help = refl;
  version = refl;
  none = record { taken = refl; named = refl };
  named_by_list = refl;
  no_list_file = refl;
  two_list_files = refl;
  unknown = refl;
  no_list = record { names = record { taken = refl; named = refl }; features_are = refl; limits_are = refl };
  list = record { names = record { taken = refl; named = refl }; features_are = refl; limits_are = refl };
  list_behind = record { names = record { taken = refl; named = refl }; features_are = refl; limits_are = refl };
  list_in_one_word = record { names = record { taken = refl; named = refl }; features_are = refl; limits_are = refl };
  short_option = record { names = record { taken = refl; named = refl }; features_are = refl; limits_are = refl };
  short_in_one_word = record { names = record { taken = refl; named = refl }; features_are = refl; limits_are = refl };
  hyphen_in_one_word = record { names = record { taken = refl; named = refl }; features_are = refl; limits_are = refl };
  short_and_long = record { names = record { taken = refl; named = refl }; features_are = refl; limits_are = refl };
  empty_list = record { names = record { taken = refl; named = refl }; features_are = refl; limits_are = refl };
  two_lists = record { names = record { taken = refl; named = refl }; features_are = refl; limits_are = refl };
  list_lacks = refl;
  limits = record { names = record { taken = refl; named = refl }; features_are = refl; limits_are = refl };
  limits_in_one_word = record { names = record { taken = refl; named = refl }; features_are = refl; limits_are = refl };
  pieces = record { names = record { taken = refl; named = refl }; pieces_are = refl };
  pieces_in_one_word = record { names = record { taken = refl; named = refl }; pieces_are = refl };
  two_pieces = refl;
  one_byte = refl;
  most_bytes = refl;
  no_bytes = refl;
  more_bytes = refl;
  no_number = refl;
  whole = refl;
  two_limits = record { names = record { taken = refl; named = refl }; features_are = refl; limits_are = refl };
  no_flag = refl;
  flag = refl;
  flag_behind = refl;
  needs_flag = refl;
  other_flag = refl;
  flag_as_file = refl;
  flag_with_value = refl;
  two_flags = refl;
}

pub returns : goal.returns
returns c = read
