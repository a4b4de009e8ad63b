-- The commands of the code as plain commands.
use Rattle.std.specs.Prelude.{List, map}
use Rattle.std.specs.Borrow.{Bor}
use Rattle.yr_values.specs.Values as value
use Rattle.yr_words.specs.Values.{Word}
use Rattle.yr_words.specs.Values as plain
use Rattle.yr_words.specs.Commands as plain_command
use Rattle.yr_words.specs.declared.value.GivenValue.{GivenValue}
use Rattle.yr_words.specs.declared.value.GivenValue.TheVariants as given
use Rattle.yr_words.specs.declared.value.Given.{Given}
use Rattle.yr_words.specs.declared.command.Flags.{Flags}
use Rattle.yr_words.specs.declared.command.Source.{Source}
use Rattle.yr_words.specs.declared.splitting.Split.{Split}
use Rattle.yr_words.specs.declared.command.Command.{Command}
use Rattle.yr_words.specs.declared.command.Command.TheVariants as command

-- lent words, as their bytes
abbrev pub lent_words : List (Bor Word) → List Word
lent_words words = map (λ w. w.now) words

-- a value
abbrev pub value_shown : GivenValue → value.Value
value_shown (given.Number n) = value.Number n
value_shown (given.Flag b) = value.Flag b
value_shown (given.Text t) = value.Text t.now

-- a name with the value that it is given
abbrev pub given_shown : Given → plain.Given
given_shown g = record { name = g.name.now; value = value_shown g.value }

-- the flags of a scan
abbrev pub flags_shown : Flags → plain_command.Flags
flags_shown f = record {
  strings = f.strings;
  tags = f.tags;
  meta = f.meta;
  negate = f.negate;
  count = f.count;
  spaces = f.spaces;
  stats = f.stats;
}

-- a rule file in its namespace
abbrev pub source_shown : Source → plain_command.Source
source_shown s = record { space = s.space.now; file = s.file.now }

-- a command, by its case
abbrev pub command_shown : Command → plain_command.Command
command_shown (command.Scan flags sources target givens) =
    plain_command.Scan (flags_shown flags) (map source_shown sources.items) target.now (map given_shown givens.items)
command_shown (command.ScanImage flags image target givens) = plain_command.ScanImage (flags_shown flags) image.now target.now (map given_shown givens.items)
command_shown (command.Compile sources output givens) = plain_command.Compile (map source_shown sources.items) output.now (map given_shown givens.items)
command_shown (command.Check sources givens) = plain_command.Check (map source_shown sources.items) (map given_shown givens.items)
command_shown (command.Work number size) = plain_command.Work number size

-- a command over the rule files, the file and the values of a split
abbrev pub with_split : (List plain_command.Source → Word → List plain.Given → plain_command.Command) → Split → plain_command.Command
with_split command s = command (map source_shown s.sources.items) s.file.now (map given_shown s.givens.items)
