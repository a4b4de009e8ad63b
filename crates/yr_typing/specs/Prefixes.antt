-- What a run of prefix operators makes of a kind.
use Rattle.std.specs.Prelude.{Option, Some, None}
use Rattle.yr_base.specs.declared.value.Kind.{Kind}
use Rattle.yr_base.specs.declared.value.Kind.TheVariants as kind
use Rattle.yr_typing.specs.declared.prefixes.Prefixes.{Prefixes}

abbrev pub kind_behind : Prefixes → Option Kind → Option Kind
kind_behind run (Some kind.Number) = run.number
kind_behind run (Some kind.Flag) = run.flag
kind_behind run (Some kind.Text) = run.text
kind_behind run None = None
