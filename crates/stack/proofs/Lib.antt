mod UnitLemmas
