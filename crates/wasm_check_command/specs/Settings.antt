-- By which features and limits files are judged: those that the options of the command line give.
use Rattle.std.specs.Prelude.{◌≡◌, ◌&&◌, ◌^◌, nat_le, if◌then◌else◌, ℕ, Bool, IsTrue, true, false, codes, Contains, List, [], Option, Some, None, Result, Ok, Err}
use Rattle.wasm_types.specs.settings.Settings.{Settings}
use Rattle.wasm_types.specs.settings.Limits.{default_limits}
use Rattle.wasm_types.specs.settings.declared.Limits.{Limits}
use Rattle.wasm_types.specs.settings.Features.{vectors_bit}
use Rattle.std.specs.Int.RustNames.{bit_or}
use Rattle.wasm_check_lines.specs.declared.forms.Form.{Form}
use Rattle.wasm_check_lines.specs.declared.forms.Form.TheVariants.{Lines, Json, Quiet}
use Rattle.wasm_types.specs.settings.Sets.{bits_of, default_features}
use Rattle.wasm_check_faults.specs.Lists.{Place, IsWordAt, place_of}
use Rattle.wasm_check_command.specs.Manners.{Manner}
use Rattle.wasm_check_faults.specs.FeatureLists.{features_through}
use Rattle.wasm_check_command.specs.declared.judging.Chosen.{Chosen}
use Rattle.wasm_check_command.specs.declared.judging.Mode.{Mode}
use Rattle.wasm_check_command.specs.declared.judging.Mode.TheVariants.{Whole, Pieces}
use Rattle.wasm_check_faults.specs.declared.limits.Wrong.{Wrong}
use Rattle.wasm_check_faults.specs.LimitLists.{ListFault, limits_through, number_of}
use Rattle.wasm_check_command.specs.Words.{features_lists, limits_lists, pieces_number, has_flag}

-- the features by the lists of `--features`, and by default if there is none
abbrev pub features_by : List (List ℕ) → Result ℕ Place
features_by lists = features_through lists (bits_of default_features)

-- `--vectors` adds the switch for operators on vectors
abbrev pub with_vectors : Bool → ℕ → ℕ
with_vectors true bits = bit_or bits vectors_bit
with_vectors false bits = bits

-- the limits by the lists of `--limits`, and by default if there is none
abbrev pub limits_by : List (List ℕ) → Result Limits ListFault
limits_by lists = limits_through lists default_limits

-- pieces of so many bytes, from 1 to 2^20
abbrev pub pieces_of : Option ℕ → Option Mode
pieces_of (Some n) = if nat_le 1 n && nat_le n (2 ^ 20) then Some (Pieces n) else None
pieces_of None = None

-- the mode by the number of `--pieces`; files are read whole if it is not there
abbrev pub mode_by : Option (List ℕ) → Option Mode
mode_by None = Some Whole
mode_by (Some number) = pieces_of (number_of number)

-- the settings of these features and limits
abbrev pub settings_by : ℕ → Limits → Settings
settings_by features limits = record { features = features; limits = limits }

-- what the program judges by
abbrev pub settings_of : Chosen → Settings
settings_of c = settings_by c.features.0 c.limits

-- how verdicts are written, by `--quiet` and `--json`; the first goes before the second
abbrev pub form_by : Bool → Bool → Form
form_by true json = Quiet
form_by false true = Json
form_by false false = Lines

-- what the options ask for
pub record Asked : Type 0 where
  pub features : List (List ℕ)
  pub limits : List (List ℕ)
  pub pieces : Option (List ℕ)
  pub vectors : Bool
  pub form : Form
  pub explains : Bool
  pub needs : Bool
  pub goes_on : Bool

-- those that the words have
abbrev pub asked_by : List (List ℕ) → Asked
asked_by words = record {
  features = features_lists words;
  limits = limits_lists words;
  pieces = pieces_number words;
  vectors = has_flag (codes "vectors") words;
  form = form_by (has_flag (codes "quiet") words) (has_flag (codes "json") words);
  explains = has_flag (codes "explain") words;
  needs = has_flag (codes "needs") words;
  goes_on = has_flag (codes "keep-going") words;
}

-- how verdicts are written
abbrev pub manner_by : Asked → Manner
manner_by asked = record { form = asked.form; explains = asked.explains; needs = asked.needs }

-- `--needs` goes with neither `--features` nor `--pieces`: it tries features, and judges the whole file each time
pub record GoTogether (asked : Asked) : Type 0 where
  pub no_features : IsTrue asked.needs → asked.features ≡ []
  pub no_pieces : IsTrue asked.needs → asked.pieces ≡ None

-- these settings and this mode are asked for, by options that go together
pub record IsGiven (asked : Asked) (z : Settings) (m : Mode) : Type 0 where
  pub together : GoTogether asked
  pub allowed : ℕ
  pub features : features_by asked.features ≡ Ok allowed
  pub with_switch : z.features ≡ with_vectors asked.vectors allowed
  pub limits : limits_by asked.limits ≡ Ok z.limits
  pub mode : mode_by asked.pieces ≡ Some m

-- one of the lists has this unknown word, the first of all
pub record IsUnknownIn (lists : List (List ℕ)) (word : List ℕ) : Type 0 where
  pub list : List ℕ
  pub has : Contains lists list
  pub start : ℕ
  pub there : IsWordAt list start word
  pub first : features_by lists ≡ Err (place_of start word)

-- one of the lists has this word at fault, the first of all, by what is wrong with it
pub record IsWrongIn (lists : List (List ℕ)) (wrong : Wrong) (word : List ℕ) : Type 0 where
  pub list : List ℕ
  pub has : Contains lists list
  pub start : ℕ
  pub there : IsWordAt list start word
  pub first : limits_by lists ≡ Err (record { wrong = wrong; place = place_of start word })
