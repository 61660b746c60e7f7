-- The bench suite, over quarters Q0 to Q3 of 8 bytes. Assumes nothing.
use Rattle.std.specs.Prelude.{[], ◌∷◌, ◌++◌}
use Rattle.spoc.specs.Suite.{Plan}

-- Q0 is masked and Q2 is the rate; the start is (K0, K1, N0, N1)
abbrev pub bench_plan : Plan
bench_plan =
    record {
      version = 9;
      rate = 8;
      rate_places = 16 ∷ 17 ∷ 18 ∷ 19 ∷ 20 ∷ 21 ∷ 22 ∷ 23 ∷ [];
      masked_places = 0 ∷ 1 ∷ 2 ∷ 3 ∷ 4 ∷ 5 ∷ 6 ∷ 7 ∷ [];
      begin = λ f k n. k ++ n;
    }
