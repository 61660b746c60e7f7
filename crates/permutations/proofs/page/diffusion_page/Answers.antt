use Rattle.permutations.proofs.BenchCounting.{bench_page}
use Rattle.permutations.proofs.page.diffusion_page.Goals as goal

pub returns-in_err-forward_by-clause-bench : goal.returns-in_err-forward_by-clause-bench
returns-in_err-forward_by-clause-bench g c = bench_page

pub returns-then-buffer-length-clause-bench : goal.returns-then-buffer-length-clause-bench
returns-then-buffer-length-clause-bench g c = bench_page

pub returns-clause-bench : goal.returns-clause-bench
returns-clause-bench g c = bench_page
