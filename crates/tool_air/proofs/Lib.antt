mod StatusLaws
