use Rattle.std.proofs.Common.{◌≡◌, length, take, take_at, rules, sym, subst, ap, ◌∙◌}
use Rattle.std.specs.Str.{IsUtf8}
use Rattle.std.proofs.lemmas.Str.{IsUtf8-from_ascii}
use Rattle.workbench.proofs.Texts.{ok_of_text}
use Rattle.workbench.proofs.states.page.Goals as goal

-- a page is ASCII
pub unwrap-page-requires : goal.unwrap-page-requires
unwrap-page-requires g c =
    let size : length c.diffusion_page.new.buffer ≡ c.in_ok-buffer.buffer.len = search rules in
    let page : c.split_at.result.0.now ≡ take c.in-Ok.length c.diffusion_page.new.buffer =
    c.split_at.ensures.front ∙ ap (take c.in-Ok.length) (c.as_slice.ensures.value ∙ take_at c.diffusion_page.new.buffer _ c.in_ok-buffer.buffer.len size) in
    ok_of_text _ _ _ c.from_utf8.result (subst IsUtf8 (sym page) (IsUtf8-from_ascii _ c.in-Ok.ensures.text)) c.from_utf8.ensures.cases
