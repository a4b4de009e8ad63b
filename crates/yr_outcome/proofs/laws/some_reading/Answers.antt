use Rattle.yr_outcome.proofs.laws.some_reading.Goals as goal

pub returns : goal.returns
returns c = (
  record {
    lexed = c.each_text_has_an_answer.ensures.0;
    unescaped = c.each_text_has_a_meaning.ensures.0;
    parsed = c.tokens_have_an_answer.ensures.0;
    readers = c.readers.ensures.some.0;
    verified = c.bytes_have_an_answer.ensures.0;
  },
  record {
    lexes = c.each_text_has_an_answer.ensures.1;
    unescapes = c.each_text_has_a_meaning.ensures.1;
    parses = c.tokens_have_an_answer.ensures.1;
    reads = c.readers.ensures.some.1;
    verifies = c.bytes_have_an_answer.ensures.1;
  },
)
