-- What code looks at, as the context of the machine.
use Rattle.std.specs.Prelude.{ℕ, ℤ, List, Bool, map}
use Rattle.yr_values.specs.Values.{Value, shown}
use Rattle.yr_image.specs.Views.{image_of}
use Rattle.yr_machine.specs.Operations.{Context}
use Rattle.yr_vm.specs.declared.world.World.{World}

-- `occurs` says which programs accept anything in which texts
abbrev pub context_of : {M : Type 0} → (field_of : M → ℕ → ℤ → Value) → (call_of : M → ℕ → ℤ → ℤ → Value) → World M
    → (occurs : ℕ → List ℕ → Bool) → Context
context_of field_of call_of world occurs = record {
  image = image_of world.image;
  file = world.file.now;
  lists = world.matches.now.lists;
  externals = map shown world.externals.now;
  fields = field_of world.modules.now;
  calls = call_of world.modules.now;
  occurs = occurs;
}
