-- The sealers by their versions, and what each means. Assumes nothing.
use Rattle.std.specs.Prelude.{◌≡◌, ℕ, if◌then◌else◌, Ok, Err, Result, ◌==◌}
use Rattle.permutations.specs.Bench.{bench}
use Rattle.permutations.specs.Light.{light_192, light_256}
use Rattle.sealer.specs.Sealing.{Sealing}
use Rattle.sealers.specs.declared.name.NoSuchVersion.{NoSuchVersion}
use Rattle.sealers.specs.declared.name.SealerName.{SealerName}
use Rattle.sealers.specs.declared.name.SealerName.TheVariants.{Spoc64, Spoc128, Bench}
use Rattle.spoc.specs.Bench.{bench_plan}
use Rattle.spoc.specs.Sealing.{spoc}
use Rattle.spoc.specs.Spoc128.{spoc_128}
use Rattle.spoc.specs.Spoc64.{spoc_64}

-- the cipher that a name stands for
abbrev pub cipher_of : SealerName → Sealing
cipher_of Spoc64 = spoc light_192 spoc_64
cipher_of Spoc128 = spoc light_256 spoc_128
cipher_of Bench = spoc bench bench_plan

-- the sealer of a version
abbrev pub sealer_of : ℕ → Result SealerName NoSuchVersion
sealer_of v =
    if v == spoc_64.version then Ok Spoc64
    else if v == spoc_128.version then Ok Spoc128
    else if v == bench_plan.version then Ok Bench
    else Err (record {})

-- the answer is the version's sealer, or that there is none
abbrev pub Names : ℕ → Result SealerName NoSuchVersion → Type 0
Names v r = r ≡ sealer_of v
