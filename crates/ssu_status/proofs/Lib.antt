mod WordsLaws
