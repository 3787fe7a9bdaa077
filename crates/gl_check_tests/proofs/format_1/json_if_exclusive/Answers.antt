use Rattle.gl_check_tests.proofs.format_1.json_if_exclusive.Goals as goal

pub json_text_v1-requires : goal.json_text_v1-requires
json_text_v1-requires c = record { exclusive = c.lists_exclusive.ensures.0 c.if-lists_exclusive.true }
